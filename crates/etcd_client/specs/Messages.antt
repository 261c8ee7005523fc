-- Requests in HTTP/1.1.
use Rattle.std.specs.Prelude.{ℕ, List, [], ◌∷◌, ◌++◌, length, codes, decimal, Option, Some, None}
use Rattle.etcd_messages.specs.declared.endpoint.Endpoint.{Endpoint}
use Rattle.etcd_messages.specs.Requests.{endpoint_path}

abbrev pub end_of_line : List ℕ
end_of_line = 13 ∷ 10 ∷ []

-- the text, and then the line of a field
unfoldable pub with_field_line : List ℕ → List ℕ → List ℕ → List ℕ
with_field_line text name value = text ++ (name ++ (codes ": " ++ (value ++ end_of_line)))

-- the first line of a request
unfoldable pub request_line : Endpoint → List ℕ
request_line endpoint = codes "POST " ++ (endpoint_path endpoint ++ codes " HTTP/1.1\r\n")

-- the text, and then the line of the token, if there is one
abbrev pub with_token : List ℕ → Option (List ℕ) → List ℕ
with_token text None = text
with_token text (Some token) = with_field_line text (codes "authorization") token

-- the first lines of a request to this host, with so many bytes of JSON
unfoldable pub first_lines : Endpoint → List ℕ → ℕ → List ℕ
first_lines endpoint host count =
    with_field_line (with_field_line (with_field_line (request_line endpoint) (codes "host") host) (codes "content-type") (codes "application/json")) (codes "content-length") (decimal count)

-- the head of such a request, with the token, if there is one
unfoldable pub request_head : Endpoint → List ℕ → Option (List ℕ) → ℕ → List ℕ
request_head endpoint host token count = with_token (first_lines endpoint host count) token ++ end_of_line

-- the request
unfoldable pub request_text : Endpoint → List ℕ → Option (List ℕ) → List ℕ → List ℕ
request_text endpoint host token body = request_head endpoint host token (length body) ++ body
