-- A history has one response to a message.
use Rattle.std.proofs.Common.{◌≡◌, ◌≢◌, ℕ, zero, suc, ◌<◌, ◌≤◌, min, Bool, not, ◌&&◌, List, [], ◌∷◌, ◌++◌, length, take, Option, Some, None, refl, sym, ap, subst, ◌∙◌, inl, inr, arith}
use Rattle.std.specs.Prelude.{map, Ok, Err, is_none, bytes_eq}
use Rattle.std.specs.Cmp.Lexicographic.{slice_cmp}
use Rattle.std.specs.Ordering.{nat_cmp}
use Rattle.std.specs.List.{All}
use Rattle.std.proofs.lemmas.Bool.{cases_lt, cases_eq}
use Rattle.std.proofs.lemmas.Cmp.{nat_list_cmp_total}
use Rattle.std.proofs.lemmas.List.{length-take}
use Rattle.std.proofs.lemmas.List.Elements.{All-head, All-tail}
use Rattle.std.proofs.lemmas.Map.Text.{is_eq-slice_cmp}
use Rattle.usbnum_core.specs.Spans.{spans_have}
use Rattle.usbnum_core.specs.declared.number.Number.{Number}
use Rattle.usbnum_core.specs.declared.number.Span.{Span}
use Rattle.registry_rules.specs.History.{History}
use Rattle.registry_rules.specs.Number.{number}
use Rattle.registry_rules.specs.Query.{petition_of, reason_of}
use Rattle.registry_rules.specs.Texts.{AreSorted}
use Rattle.registry_rules.specs.declared.founding.Founding.{Founding}
use Rattle.registry_rules.specs.declared.record.Entry.{Entry}
use Rattle.registry_rules.specs.declared.record.Vendor.{Vendor}
use Rattle.registry_rules.proofs.OpenLemmas.{count_alike}
use Rattle.registry_reports.specs.Census.{census_lines, census_of, free_count, held_count, returned_count, reserved_count, passes, listed}
use Rattle.registry_reports.specs.Holders.{IsHolders, holder_lines}
use Rattle.registry_reports.specs.Petitions.{petition_lines}
use Rattle.registry_reports.specs.Numbers.{line_at, lines_to, number_lines}
use Rattle.registry_reports.specs.Organisations.{org_lines}
use Rattle.registry_reports.specs.Pages.{FitPage, IsPage, text_of_lines}
use Rattle.registry_reports.proofs.UniqueLemmas.{one_list}
use Rattle.registry_tables.proofs.AscendLemmas.{one_order}
use Rattle.registry_tables.proofs.ViewLemmas.{same_bytes}
use Rattle.registry_views.specs.Records.{IsPageText, lines_after}
use Rattle.registry_views.specs.Reports.{HasReserved, IsCensus, IsHoldersReport, IsNumbersReport, IsOrganisationsReport, IsPetitionsReport}
use Rattle.registry_http.specs.declared.response.Response.{Response}
use Rattle.registry_http.specs.declared.route.Query.TheVariants as queries
use Rattle.registry_http.specs.declared.route.Query.{Query}
use Rattle.registry_reports.specs.declared.kinds.ReportKind.TheVariants as reports
use Rattle.registry_http.specs.declared.message.Message.TheVariants as messages
use Rattle.registry_http.specs.Foundings.{founding_response}
use Rattle.registry_http.specs.Resources.{head_response, petition_response}
use Rattle.registry_tables.specs.Head.{digest_at}
use Rattle.registry_http.specs.Responses.{page_response, text_response}
use Rattle.usbids_text.specs.Entries.{TopEntry}
use Rattle.usbids_text.specs.Writing.{written}
use Rattle.registry_desk.specs.Acting.{IsDetermined, IsFoundingResponse, IsQueryResponse, HasOneResponse}
use Rattle.registry_views.proofs.OnceLemmas.{one_founding, one_number_list, one_org_list, one_petition_list, one_vendor_list}

-- ---- reports

abbrev Reserved : Type 0
Reserved = ℕ × List Span

one_census_line : (numbers : List (Number × Entry)) (p q : Reserved) → p.0 ≡ q.0 → ((pid : ℕ) → spans_have p.1 pid ≡ spans_have q.1 pid) → census_of numbers p ≡ census_of numbers q
unfolding free_count held_count returned_count reserved_count
one_census_line numbers p q vid spans =
    let open_at : (B : ℕ → Bool) (n : ℕ) → (not (spans_have p.1 n) && B n) ≡ (not (spans_have q.1 n) && B n) = λ B n. ap (λ (b : Bool). not b && B n) (spans n) in
    let reserved = count_alike (spans_have p.1) (spans_have q.1) 65535 (λ n low high. spans n) in
    let count = λ (B : ℕ → Bool). count_alike (λ n. not (spans_have p.1 n) && B n) (λ n. not (spans_have q.1 n) && B n) 65535 (λ n low high. open_at B n) in
    rw (
      vid,
      reserved,
      count (λ n. is_none (listed numbers (number q.0 n))),
      count (λ n. passes (λ pair. pair.1.held) (listed numbers (number q.0 n))),
      count (λ n. passes (λ pair. not pair.1.held) (listed numbers (number q.0 n))),
    ) refl

one_census : (h : History) (numbers : List (Number × Entry)) (ps qs : List Reserved) → map (λ pair. pair.0) ps ≡ map (λ pair. pair.0) qs
    → All (HasReserved h) ps → All (HasReserved h) qs → census_lines numbers ps ≡ census_lines numbers qs
one_census h numbers [] [] same of_p of_q = refl
one_census h numbers [] (q ∷ qs) same of_p of_q = absurd cc
one_census h numbers (p ∷ ps) [] same of_p of_q = absurd cc
one_census h numbers (p ∷ ps) (q ∷ qs) same of_p of_q =
    let vid : p.0 ≡ q.0 = cc in
    let rest : map (λ (pair : Reserved). pair.0) ps ≡ map (λ (pair : Reserved). pair.0) qs = cc in
    let here = All-head (HasReserved h) p ps of_p in
    let there = All-head (HasReserved h) q qs of_q in
    let line = one_census_line numbers p q vid (λ pid. here pid ∙ sym (rw vid (there pid))) in
    ap (λ (t : List ℕ). t ++ census_lines numbers ps) line ∙ ap (λ (t : List ℕ). census_of numbers q ++ t) (one_census h numbers ps qs rest (All-tail (HasReserved h) p ps of_p) (All-tail (HasReserved h) q qs of_q))

one_census_text : (h : History) (a b : List ℕ) → IsCensus h a → IsCensus h b → a ≡ b
one_census_text h a b is_a is_b =
    let vendors = one_vendor_list h is_a.vendors is_b.vendors is_a.all_vendors is_b.all_vendors in
    let numbers = one_number_list h is_a.numbers is_b.numbers is_a.all_numbers is_b.all_numbers in
    let same = is_a.reserved.same ∙ (ap (λ (l : List Vendor). map (λ vendor. vendor.vid) l) vendors ∙ sym is_b.reserved.same) in
    is_a.lines ∙ (ap (λ (l : List (Number × Entry)). census_lines l is_a.pairs) numbers ∙ (one_census h is_b.numbers is_a.pairs is_b.pairs same is_a.reserved.each is_b.reserved.each ∙ sym is_b.lines))

one_order_of : (given a b : List (List ℕ)) → AreSorted given a → AreSorted given b → a ≡ b
one_order_of given a b is_a is_b = one_order (slice_cmp nat_cmp) nat_list_cmp_total bytes_eq is_eq-slice_cmp same_bytes a b is_a.ascending is_b.ascending (λ text. is_a.same text ∙ sym (is_b.same text))

one_holders : (numbers : List (Number × Entry)) (a b : List ℕ) → IsHolders numbers a → IsHolders numbers b → a ≡ b
one_holders numbers a b is_a is_b = is_a.lines ∙ (ap (holder_lines numbers) (one_order_of _ is_a.slugs is_b.slugs is_a.order is_b.order) ∙ sym is_b.lines)

one_holders_text : (h : History) (a b : List ℕ) → IsHoldersReport h a → IsHoldersReport h b → a ≡ b
one_holders_text h a b is_a is_b =
    let numbers = one_number_list h is_a.numbers is_b.numbers is_a.all_numbers is_b.all_numbers in
    one_holders is_b.numbers a b (subst (λ (l : List (Number × Entry)). IsHolders l a) numbers is_a.holders) is_b.holders

one_petitions_text : (h : History) (a b : List ℕ) → IsPetitionsReport h a → IsPetitionsReport h b → a ≡ b
one_petitions_text h a b is_a is_b =
    is_a.lines ∙ (ap (petition_lines h.founding.vendor) (one_petition_list h is_a.petitions is_b.petitions is_a.all_petitions is_b.all_petitions) ∙ sym is_b.lines)

lines_alike : (f g : ℕ → List ℕ) → ((n : ℕ) → f n ≡ g n) → (limit : ℕ) → lines_to f limit ≡ lines_to g limit
unfolding lines_to
lines_alike f g same zero = refl
lines_alike f g same (suc n) = ap (λ (t : List ℕ). t ++ f (suc n)) (lines_alike f g same n) ∙ ap (λ (t : List ℕ). lines_to g n ++ t) (same (suc n))

one_vendors_lines : (numbers : List (Number × Entry)) (p q : Reserved) → p.0 ≡ q.0 → ((pid : ℕ) → spans_have p.1 pid ≡ spans_have q.1 pid) → lines_to (line_at numbers p) 65535 ≡ lines_to (line_at numbers q) 65535
one_vendors_lines numbers p q vid spans = lines_alike (line_at numbers p) (line_at numbers q) (λ pid. rw (vid, spans pid) refl) 65535

one_numbers : (h : History) (numbers : List (Number × Entry)) (ps qs : List Reserved) → map (λ pair. pair.0) ps ≡ map (λ pair. pair.0) qs
    → All (HasReserved h) ps → All (HasReserved h) qs → number_lines numbers ps ≡ number_lines numbers qs
one_numbers h numbers [] [] same of_p of_q = refl
one_numbers h numbers [] (q ∷ qs) same of_p of_q = absurd cc
one_numbers h numbers (p ∷ ps) [] same of_p of_q = absurd cc
one_numbers h numbers (p ∷ ps) (q ∷ qs) same of_p of_q =
    let vid : p.0 ≡ q.0 = cc in
    let rest : map (λ (pair : Reserved). pair.0) ps ≡ map (λ (pair : Reserved). pair.0) qs = cc in
    let here = All-head (HasReserved h) p ps of_p in
    let there = All-head (HasReserved h) q qs of_q in
    let line = one_vendors_lines numbers p q vid (λ pid. here pid ∙ sym (rw vid (there pid))) in
    ap (λ (t : List ℕ). t ++ number_lines numbers ps) line
    ∙ ap (λ (t : List ℕ). lines_to (line_at numbers q) 65535 ++ t) (one_numbers h numbers ps qs rest (All-tail (HasReserved h) p ps of_p) (All-tail (HasReserved h) q qs of_q))

one_numbers_text : (h : History) (a b : List ℕ) → IsNumbersReport h a → IsNumbersReport h b → a ≡ b
one_numbers_text h a b is_a is_b =
    let vendors = one_vendor_list h is_a.vendors is_b.vendors is_a.all_vendors is_b.all_vendors in
    let numbers = one_number_list h is_a.numbers is_b.numbers is_a.all_numbers is_b.all_numbers in
    let same = is_a.reserved.same ∙ (ap (λ (l : List Vendor). map (λ vendor. vendor.vid) l) vendors ∙ sym is_b.reserved.same) in
    is_a.lines ∙ (ap (λ (l : List (Number × Entry)). number_lines l is_a.pairs) numbers ∙ (one_numbers h is_b.numbers is_a.pairs is_b.pairs same is_a.reserved.each is_b.reserved.each ∙ sym is_b.lines))

one_organisations_text : (h : History) (a b : List ℕ) → IsOrganisationsReport h a → IsOrganisationsReport h b → a ≡ b
one_organisations_text h a b is_a is_b = is_a.lines ∙ (ap org_lines (one_org_list h is_a.orgs is_b.orgs is_a.all_orgs is_b.all_orgs) ∙ sym is_b.lines)

-- ---- the founding

one_founding_response : (h : History) (a b : Response) → IsFoundingResponse h a → IsFoundingResponse h b → a ≡ b
one_founding_response h a b is_a is_b =
    is_a.response_is
    ∙ (ap (λ (f : Founding). founding_response f is_a.vendors) (one_founding h is_a.founding is_b.founding is_a.current is_b.current is_a.sorted is_b.sorted)
    ∙ (ap (founding_response is_b.founding) (one_vendor_list h is_a.vendors is_b.vendors is_a.all_vendors is_b.all_vendors) ∙ sym is_b.response_is))

-- ---- the record

abbrev Lines : Type 0
Lines = List (List ℕ)

-- a page that has fewer lines than another page of the same lines is that page
no_shorter : (lines a b : Lines) → IsPage lines a → IsPage lines b → length a < length b → ⊥
no_shorter lines a b is_a is_b less = elim (cases_lt 1 (length b)) [
  | inl many ↦ is_a.longest (length b) less (within lines b is_b) (subst FitPage is_b.beginning (is_b.fits many))
  | inr one ↦ is_a.first (some lines b is_b (omega (arith, less))) (none a (omega (arith, less, one)))
]
  where
    within : (lines b : Lines) → IsPage lines b → length b ≤ length lines
    within lines b is_b = let size : length b ≡ min (length b) (length lines) = ap length is_b.beginning ∙ length-take (length b) lines in omega (arith, size)

    none : (a : Lines) → length a ≡ 0 → a ≡ []
    none [] is = refl
    none (x ∷ a) is = absurd (omega (arith, is))

    some : (lines b : Lines) → IsPage lines b → 0 < length b → lines ≢ []
    some lines b is_b filled empty = let inside = within lines b is_b in let size : length lines ≡ 0 = ap length empty in omega (arith, inside, size, filled)

one_page : (lines a b : Lines) → IsPage lines a → IsPage lines b → a ≡ b
one_page lines a b is_a is_b = elim (cases_eq (length a) (length b)) [
  | inl same ↦ is_a.beginning ∙ (ap (λ (n : ℕ). take n lines) same ∙ sym is_b.beginning)
  | inr other ↦ elim (cases_lt (length a) (length b)) [
    | inl less ↦ absurd (no_shorter lines a b is_a is_b less)
    | inr more ↦ absurd (no_shorter lines b a is_b is_a (omega (arith, more, other)))
  ]
]

one_page_text : (lines : Lines) (a b : List ℕ) → IsPageText lines a → IsPageText lines b → a ≡ b
one_page_text lines a b is_a is_b = is_a.text_is ∙ (ap text_of_lines (one_page lines is_a.page is_b.page is_a.is_page is_b.is_page) ∙ sym is_b.text_is)

-- ---- responses

one_of_query : (h : History) (query : Query) (a b : Response) → IsDetermined h (Ok (messages.Query query)) → IsQueryResponse h query a → IsQueryResponse h query b → a ≡ b
one_of_query h queries.List a b valid is_a is_b = is_a.2 ∙ (ap (λ (doc : List TopEntry). text_response (written doc None)) (one_list h is_a.0 is_b.0 is_a.1 is_b.1) ∙ sym is_b.2)
one_of_query h (queries.Number None pid) a b valid is_a is_b = is_a ∙ sym is_b
one_of_query h (queries.Number (Some vid) pid) a b valid is_a is_b = is_a ∙ sym is_b
one_of_query h (queries.Org org) a b valid is_a is_b = is_a ∙ sym is_b
one_of_query h (queries.Petition id) a b valid is_a is_b =
    is_a.2 ∙ (ap (petition_response h.founding.vendor id (petition_of h id) (reason_of h id)) (is_a.1 valid ∙ sym (is_b.1 valid)) ∙ sym is_b.2)
one_of_query h queries.Founding a b valid is_a is_b = one_founding_response h a b is_a is_b
one_of_query h queries.FirstFounding a b valid is_a is_b = is_a ∙ sym is_b
one_of_query h queries.Head a b valid is_a is_b =
    let x = is_a.1 valid in
    let y = is_b.1 valid in
    is_a.2 ∙ (ap (λ (n : ℕ). head_response n is_a.0.digest is_a.0.time) (x.count ∙ sym y.count) ∙ (ap (λ (d : List ℕ). head_response is_b.0.count d is_a.0.time) (x.digest ∙ sym y.digest) ∙ (ap (λ (t : Option (List ℕ)). head_response is_b.0.count is_b.0.digest t) (x.time ∙ sym y.time) ∙ sym is_b.2)))
one_of_query h (queries.History n) a b valid is_a is_b = is_a.2 valid ∙ (ap (λ (text : List ℕ). page_response text (digest_at h n)) (one_page_text (lines_after h n) is_a.0 is_b.0 (is_a.1 valid) (is_b.1 valid)) ∙ sym (is_b.2 valid))
one_of_query h (queries.Report reports.Census) a b valid is_a is_b = is_a.2 ∙ (ap text_response (one_census_text h is_a.0 is_b.0 is_a.1 is_b.1) ∙ sym is_b.2)
one_of_query h (queries.Report reports.Holders) a b valid is_a is_b = is_a.2 ∙ (ap text_response (one_holders_text h is_a.0 is_b.0 is_a.1 is_b.1) ∙ sym is_b.2)
one_of_query h (queries.Report reports.Petitions) a b valid is_a is_b = is_a.2 ∙ (ap text_response (one_petitions_text h is_a.0 is_b.0 is_a.1 is_b.1) ∙ sym is_b.2)
one_of_query h (queries.Report reports.Numbers) a b valid is_a is_b = is_a.2 ∙ (ap text_response (one_numbers_text h is_a.0 is_b.0 is_a.1 is_b.1) ∙ sym is_b.2)
one_of_query h (queries.Report reports.Organisations) a b valid is_a is_b = is_a.2 ∙ (ap text_response (one_organisations_text h is_a.0 is_b.0 is_a.1 is_b.1) ∙ sym is_b.2)

pub one_response : HasOneResponse
one_response h (Err refusal) a b valid is_a is_b = is_a ∙ sym is_b
one_response h (Ok (messages.Query query)) a b valid is_a is_b = one_of_query h query a b valid is_a is_b
one_response h (Ok (messages.Request request)) a b valid is_a is_b = is_a ∙ sym is_b
