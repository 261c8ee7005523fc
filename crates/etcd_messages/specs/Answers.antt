-- What the answers of etcd say.
--
-- An answer is an object of JSON with a member `header`. etcd leaves a member out whose value is false, 0, empty or no
-- item at all.
use Rattle.std.specs.Prelude.{ℕ, ◌+◌, ◌-◌, ◌*◌, ◌==◌, ◌&&◌, nat_le, nat_lt, List, [], ◌∷◌, length, codes, bytes_eq, Bool, true, false, Option, Some, None, is_some, option_and_then, Result, Ok, Err, if◌then◌else◌}
use Rattle.std.specs.List.{list_all}
use Rattle.std.specs.Str.{is_utf8}
use Rattle.serde_json.specs.Data.{Data, Items, item, no_items}
use Rattle.serde_json.specs.Read.{read}
use Rattle.serde_json.specs.Find.{get, at, as_str, as_bool, as_array, as_object}
use Rattle.shared_log.specs.declared.answers.AppendAnswer.{AppendAnswer}
use Rattle.shared_log.specs.declared.answers.AppendAnswer.TheVariants.{Appended, Taken, Behind}
use Rattle.shared_log.specs.declared.answers.PageAnswer.{PageAnswer}
use Rattle.shared_log.specs.declared.answers.HeadAnswer.{HeadAnswer}
use Rattle.etcd_messages.specs.declared.fault.AnswerFault.{AnswerFault}
use Rattle.etcd_messages.specs.declared.fault.AnswerFault.TheVariants.{TooLong, BadJson, BadMember}
use Rattle.etcd_messages.specs.declared.fault.Member.{Member}
use Rattle.etcd_messages.specs.declared.fault.Member.TheVariants as members
use Rattle.etcd_messages.specs.Keys.{key_text, from_base64}
use Rattle.etcd_messages.specs.Visible.{is_visible}
use Rattle.etcd_messages.specs.Faults.{member_name, status_fault, login_fault, value_or_fault, ◌|>◌}

-- the most bytes of an answer that is read: 32 MiB
abbrev pub most_answer : ℕ
most_answer = 33_554_432

-- the number of a line is below this: 2^32
abbrev pub line_number_bound : ℕ
line_number_bound = 4_294_967_296

-- ---- objects and their members

abbrev pub object_or_bad_json : Option Data → Result Data AnswerFault
object_or_bad_json None = Err BadJson
object_or_bad_json (Some tree) = if is_some (as_object tree) then Ok tree else Err BadJson

-- the bytes as a JSON object
unfoldable pub answer_object : List ℕ → Result Data AnswerFault
answer_object bytes = object_or_bad_json (if is_utf8 bytes then read bytes else None)

-- an object as it is
abbrev pub as_tree : Data → Option Data
as_tree tree = if is_some (as_object tree) then Some tree else None

-- the object that is a member of another one
abbrev pub tree_in : List ℕ → Data → Option Data
tree_in name tree = option_and_then as_tree (get name tree)

-- the object, if it has a header
abbrev pub if_headed : Data → Result Data AnswerFault
if_headed tree = if is_some (tree_in (member_name members.Header) tree) then Ok tree else Err (BadMember members.Header)

-- the answer in these bytes
unfoldable pub answer_in : List ℕ → Result Data AnswerFault
answer_in bytes = if nat_le (length bytes) most_answer then (answer_object bytes |> if_headed) else Err TooLong

-- the text at a member
abbrev pub member_text : Member → Data → Option (List ℕ)
member_text name tree = option_and_then as_str (get (member_name name) tree)

-- the truth of a member, which is left out if it is false
abbrev pub flag_of : Member → Option Data → Result Bool AnswerFault
flag_of name None = Ok false
flag_of name (Some found) = value_or_fault (BadMember name) (as_bool found)

unfoldable pub flag_in : Member → Data → Result Bool AnswerFault
flag_in name tree = flag_of name (get (member_name name) tree)

-- ---- pairs of a key and a line

-- the pairs of an answer, which are left out if there is none
abbrev pub pairs_of : Option Data → Result Items AnswerFault
pairs_of None = Ok no_items
pairs_of (Some found) = value_or_fault (BadMember members.Kvs) (as_array found)

abbrev pub pairs_in : Data → Result Items AnswerFault
pairs_in tree = pairs_of (get (member_name members.Kvs) tree)

-- the bytes of a value in base64, which is left out if it is empty
abbrev pub value_of : Option Data → Option (List ℕ)
value_of None = Some []
value_of (Some found) = option_and_then from_base64 (as_str found)

-- whether a text is there, and is this one
abbrev pub is_text : List ℕ → Option (List ℕ) → Bool
is_text text None = false
is_text text (Some found) = bytes_eq found text

-- the line of a pair, whose key has to be this one
unfoldable pub keyed_line : List ℕ → Data → Result (List ℕ) AnswerFault
keyed_line key pair =
    if is_text key (member_text members.Key pair)
    then value_or_fault (BadMember members.Value) (value_of (get (member_name members.Value) pair))
    else Err (BadMember members.Key)

-- ---- the answer to an append

-- the response of this kind to the only step of a transaction
unfoldable pub response_in : List ℕ → Data → Result Data AnswerFault
response_in kind tree =
    value_or_fault (BadMember members.Responses)
    (option_and_then (tree_in kind) (option_and_then (at 0) (get (member_name members.Responses) tree)))

-- what the look-up of a line found whose append was refused: that line, or none
unfoldable pub refused_by : List ℕ → Items → Result AppendAnswer AnswerFault
refused_by key no_items = Ok Behind
refused_by key (item pair no_items) = keyed_line key pair |> λ line. Ok (Taken line)
refused_by key (item pair (item other pairs)) = Err (BadMember members.Kvs)

unfoldable pub refused_in : List ℕ → Data → Result AppendAnswer AnswerFault
refused_in key tree = response_in (codes "response_range") tree |> λ found. pairs_in found |> refused_by key

-- what the answer to an append under this key says
unfoldable pub append_in : List ℕ → Data → Result AppendAnswer AnswerFault
append_in key tree =
    flag_in members.Succeeded tree |> λ done.
    if done then (response_in (codes "response_put") tree |> λ put. Ok Appended) else refused_in key tree

-- ---- the answer to a read of lines

-- the line of a pair, which has to be line n
abbrev pub numbered_line : List ℕ → ℕ → Data → Result (List ℕ) AnswerFault
numbered_line name n pair = if nat_lt n line_number_bound then keyed_line (key_text name n) pair else Err (BadMember members.Key)

-- the lines of these pairs, which have to be n and the numbers after it
unfoldable pub lines_from : List ℕ → ℕ → Items → Result (List (List ℕ)) AnswerFault
lines_from name n no_items = Ok []
lines_from name n (item pair pairs) = numbered_line name n pair |> λ line. lines_from name (n + 1) pairs |> λ lines. Ok (line ∷ lines)

-- lines and whether there are more, which needs a line
unfoldable pub page_of : List (List ℕ) → Bool → Result PageAnswer AnswerFault
page_of lines more =
    if more && (length lines == 0) then Err (BadMember members.More) else Ok (record { lines = lines; more = more })

-- what the answer to a read of lines from n on says
unfoldable pub page_in : List ℕ → ℕ → Data → Result PageAnswer AnswerFault
page_in name n tree =
    pairs_in tree |> λ pairs. lines_from name n pairs |> λ lines. flag_in members.More tree |> λ more. page_of lines more

-- ---- the answer to a read of the head

abbrev pub is_decimal_digit : ℕ → Bool
is_decimal_digit b = nat_le 48 b && nat_le b 57

-- the value of n's digits followed by these decimal digits
abbrev pub digits_value_from : ℕ → List ℕ → ℕ
digits_value_from n [] = n
digits_value_from n (b ∷ bytes) = digits_value_from (n * 10 + (b - 48)) bytes

-- the value of 1 to 10 decimal digits
unfoldable pub digits_value : List ℕ → Option ℕ
digits_value text =
    if nat_le 1 (length text) && nat_le (length text) 10 && list_all is_decimal_digit text then Some (digits_value_from 0 text) else None

-- a number of lines
abbrev pub if_few : ℕ → Option ℕ
if_few n = if nat_lt n line_number_bound then Some n else None

-- the number of lines, which is left out if it is 0
abbrev pub line_count_of : Option Data → Option ℕ
line_count_of None = Some 0
line_count_of (Some found) = option_and_then if_few (option_and_then digits_value (as_str found))

-- the head of a log of so many lines, whose last one is in these pairs
unfoldable pub log_head_of : List ℕ → ℕ → Items → Result HeadAnswer AnswerFault
log_head_of name count no_items =
    if count == 0 then Ok (record { count = 0; last = None }) else Err (BadMember members.Kvs)
log_head_of name count (item pair no_items) =
    if count == 0 then Err (BadMember members.Count)
    else (keyed_line (key_text name (count - 1)) pair |> λ line. Ok (record { count = count; last = Some line }))
log_head_of name count (item pair (item other pairs)) = Err (BadMember members.Kvs)

-- what the answer to a read of the head says
unfoldable pub log_head_in : List ℕ → Data → Result HeadAnswer AnswerFault
log_head_in name tree =
    value_or_fault (BadMember members.Count) (line_count_of (get (member_name members.Count) tree)) |> λ count.
    pairs_in tree |> λ pairs. log_head_of name count pairs

-- ---- the answer to a login

-- a token, which is written into the head of a message
abbrev pub if_token : List ℕ → Option (List ℕ)
if_token text = if nat_le 1 (length text) && list_all is_visible text then Some text else None

-- what the answer to a login says
unfoldable pub token_in : Data → Result (List ℕ) AnswerFault
token_in tree = value_or_fault (BadMember members.Token) (option_and_then if_token (member_text members.Token tree))

-- ---- answers with a status

-- the answer in the body of a message with status 200, or the fault that another status names
unfoldable pub answer_with : AnswerFault → ℕ → List ℕ → Result Data AnswerFault
answer_with fault status body = if status == 200 then answer_in body else Err fault

unfoldable pub append_reading : List ℕ → ℕ → ℕ → List ℕ → Result AppendAnswer AnswerFault
append_reading name n status body = answer_with (status_fault status) status body |> append_in (key_text name n)

unfoldable pub page_reading : List ℕ → ℕ → ℕ → List ℕ → Result PageAnswer AnswerFault
page_reading name n status body = answer_with (status_fault status) status body |> page_in name n

unfoldable pub log_head_reading : List ℕ → ℕ → List ℕ → Result HeadAnswer AnswerFault
log_head_reading name status body = answer_with (status_fault status) status body |> log_head_in name

unfoldable pub login_reading : ℕ → List ℕ → Result (List ℕ) AnswerFault
login_reading status body = answer_with (login_fault status) status body |> token_in

-- what etcd says of an error, if it says it in JSON
abbrev pub error_reason : Result Data AnswerFault → Option (List ℕ)
error_reason (Ok tree) = member_text members.Error tree
error_reason (Err fault) = None
