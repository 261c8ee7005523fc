-- The answers of an etcd that keeps a log.
use Rattle.std.proofs.Common.{◌≡◌, ℕ, suc, ◌+◌, ◌==◌, ◌≤◌, ◌<◌, nat_lt, List, [], ◌∷◌, length, slice_get, codes, cond, Bool, true, false, Option, Some, None, Result, Ok, refl, sym, ap, ◌∙◌, add-one, arith}
use Rattle.std.specs.Result.{result_ok}
use Rattle.std.specs.Str.{bytes_eq}
use Rattle.std.proofs.Math.Dec.{eqb-suc-zero}
use Rattle.std.proofs.lemmas.Bool.{lt-ltb}
use Rattle.std.proofs.lemmas.Slice.Eq.{bytes_eq-Decides}
use Rattle.base64.specs.Engines.{standard}
use Rattle.base64.specs.GeneralPurpose.{IsBytes, decoded_of}
use Rattle.base64.proofs.EngineFacts.{decode_of-encode_of}
use Rattle.serde_json.specs.Data.{boolean, member, no_members}
use Rattle.shared_log.specs.declared.answers.AppendAnswer.TheVariants.{Appended}
use Rattle.etcd_messages.specs.declared.fault.AnswerFault.{AnswerFault}
use Rattle.etcd_messages.specs.Keys.{in_base64, from_base64, key_text}
use Rattle.etcd_messages.specs.Answers.{keyed_line, numbered_line, lines_from, append_in, refused_in, refused_by, response_in, flag_in, page_in, page_of, line_number_bound}
use Rattle.etcd_messages.specs.Faults.{◌|>◌}
use Rattle.etcd_messages.specs.Stated.{Revisions, Surroundings, AreBytes, pair_of, pairs_from, append_says, append_means, page_says, refused_append, looked_up, transaction_says}

-- what is written in base64 reads back
reads_back : (line : List ℕ) → IsBytes line → from_base64 (in_base64 line) ≡ Some line
unfolding in_base64 from_base64 decoded_of
reads_back line bytes = ap result_ok (decode_of-encode_of standard line refl bytes)

same_text : (text : List ℕ) → bytes_eq text text ≡ true
same_text text = (bytes_eq-Decides text text).1 refl

-- the pair of a line is read as this line
pub line_in_pair : (r : Revisions) (name : List ℕ) (n : ℕ) (line : List ℕ) → IsBytes line → keyed_line (key_text name n) (pair_of r name n line) ≡ Ok line
unfolding keyed_line
line_in_pair r name n [] bytes = rw (same_text (key_text name n)) refl
line_in_pair r name n (b ∷ line) bytes = rw (same_text (key_text name n), reads_back (b ∷ line) bytes) refl

line_of_pair : (r : Revisions) (name : List ℕ) (n : ℕ) (line : List ℕ) → IsBytes line → n < line_number_bound → numbered_line name n (pair_of r name n line) ≡ Ok line
line_of_pair r name n line bytes few = rw (lt-ltb n line_number_bound few) (line_in_pair r name n line bytes)

-- the pairs of lines are read as these lines
pub lines_from_pairs : (r : ℕ → Revisions) (name : List ℕ) (n : ℕ) (lines : List (List ℕ)) → AreBytes lines → n + length lines ≤ line_number_bound → lines_from name n (pairs_from r name n lines) ≡ Ok lines
unfolding lines_from
lines_from_pairs r name n [] bytes fits = refl
lines_from_pairs r name n (line ∷ lines) bytes fits =
    rw (
      line_of_pair (r n) name n line (bytes 0 line refl) (omega arith),
      lines_from_pairs r name (n + 1) lines (λ k other e. bytes (suc k) other e) (omega arith),
    ) refl

-- the answer with lines is read as these
pub page_in_said : (s : Surroundings) (name : List ℕ) (n : ℕ) (lines : List (List ℕ)) (more : Bool) → AreBytes lines → n + length lines ≤ line_number_bound → (lines ≡ [] → more ≡ false)
    → page_in name n (page_says s name n lines more) ≡ Ok (record { lines = lines; more = more })
unfolding page_in flag_in lines_from page_of
page_in_said s name n [] true bytes fits none = cc (none refl)
page_in_said s name n [] false bytes fits none = refl
page_in_said s name n (line ∷ lines) true bytes fits none = rw (lines_from_pairs s.revisions name n (line ∷ lines) bytes fits, eqb-suc-zero (length lines)) refl
page_in_said s name n (line ∷ lines) false bytes fits none = rw (lines_from_pairs s.revisions name n (line ∷ lines) bytes fits) refl

refused_said : (s : Surroundings) (name : List ℕ) (n : ℕ) (found : Option (List ℕ)) → ((line : List ℕ) → found ≡ Some line → IsBytes line)
    → append_in (key_text name n) (transaction_says s.header (codes "response_range") (looked_up s name n found) no_members) ≡ Ok (refused_append found)
unfolding append_in flag_in refused_in refused_by response_in
refused_said s name n None bytes = refl
refused_said s name n (Some line) bytes = rw (line_in_pair (s.revisions n) name n line (bytes line refl)) refl

said_by : (s : Surroundings) (name : List ℕ) (n : ℕ) (log : List (List ℕ)) (next : Bool) → AreBytes log
    → append_in (key_text name n) (cond next (transaction_says s.header (codes "response_put") s.step (member (codes "succeeded") (boolean true) no_members)) (transaction_says s.header (codes "response_range") (looked_up s name n (slice_get log n)) no_members))
    ≡ Ok (cond next Appended (refused_append (slice_get log n)))
unfolding append_in flag_in refused_in refused_by response_in
said_by s name n log true bytes = refl
said_by s name n log false bytes = refused_said s name n (slice_get log n) (bytes n)

-- the answer to an append is read as what became of it
pub append_in_said : (s : Surroundings) (name : List ℕ) (n : ℕ) (log : List (List ℕ)) → AreBytes log → append_in (key_text name n) (append_says s name n log) ≡ Ok (append_means n log)
append_in_said s name n log bytes = said_by s name n log (n == length log) bytes
