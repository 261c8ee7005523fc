-- The requests to etcd, as JSON.
use Rattle.std.specs.Prelude.{ℕ, ◌-◌, ◌==◌, List, codes, if◌then◌else◌}
use Rattle.serde_json.specs.Data.{Data, string, number, unsigned, array, object, Items, item, no_items, member, no_members}
use Rattle.etcd_messages.specs.declared.endpoint.Endpoint.{Endpoint}
use Rattle.etcd_messages.specs.declared.endpoint.Endpoint.TheVariants as endpoints
use Rattle.etcd_messages.specs.Keys.{key_text, end_text, in_base64}

-- the path to which a request is sent
abbrev pub endpoint_path : Endpoint → List ℕ
endpoint_path endpoints.Append = codes "/v3/kv/txn"
endpoint_path endpoints.Read = codes "/v3/kv/range"
endpoint_path endpoints.Login = codes "/v3/auth/authenticate"

-- the condition that a key has a value, `GREATER`, or has none, `EQUAL`: a key without a value was created at revision 0
abbrev pub created : List ℕ → List ℕ → Data
created result key =
    object (member (codes "create_revision") (string (codes "0")) (member (codes "key") (string key)
    (member (codes "result") (string result) (member (codes "target") (string (codes "CREATE")) no_members))))

-- line n is not there, and the one before it is
abbrev pub conditions : List ℕ → ℕ → Items
conditions name n =
    item (created (codes "EQUAL") (key_text name n))
    (if n == 0 then no_items else item (created (codes "GREATER") (key_text name (n - 1))) no_items)

-- the step that looks a key up
abbrev pub look_up : List ℕ → Data
look_up key = object (member (codes "requestRange") (object (member (codes "key") (string key) no_members)) no_members)

-- the step that writes a value at a key
abbrev pub put_step : List ℕ → List ℕ → Data
put_step key value =
    object (member (codes "requestPut") (object (member (codes "key") (string key) (member (codes "value") (string value) no_members))) no_members)

-- the second step under these conditions, and otherwise the first
abbrev pub either : Data → Data → Data → Data
either compare look put =
    object (member (codes "compare") compare (member (codes "failure") (array (item look no_items))
    (member (codes "success") (array (item put no_items)) no_members)))

-- Writes line n if it is not there and the one before it is, and else looks it up.
unfoldable pub append_request : List ℕ → ℕ → List ℕ → Data
append_request name n line = either (array (conditions name n)) (look_up (key_text name n)) (put_step (key_text name n) (in_base64 line))

-- Reads the first lines from n on, as many as the limit says, and all if it is 0.
unfoldable pub page_request : List ℕ → ℕ → ℕ → Data
page_request name n limit =
    object (member (codes "key") (string (key_text name n)) (member (codes "limit") (number (unsigned limit))
    (member (codes "range_end") (string (end_text name)) no_members)))

-- Reads the last line. The answer counts all lines.
unfoldable pub head_request : List ℕ → Data
head_request name =
    object (member (codes "key") (string (key_text name 0)) (member (codes "limit") (number (unsigned 1))
    (member (codes "range_end") (string (end_text name)) (member (codes "sort_order") (string (codes "DESCEND"))
    (member (codes "sort_target") (string (codes "KEY")) no_members)))))

-- Asks for a token, by the name and the password of a user.
unfoldable pub login_request : List ℕ → List ℕ → Data
login_request user password =
    object (member (codes "name") (string user) (member (codes "password") (string password) no_members))
