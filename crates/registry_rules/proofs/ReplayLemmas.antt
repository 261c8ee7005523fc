-- A legal history is what its own requests make of a new registry.
use Rattle.std.proofs.Common.{◌≡◌, List, [], ◌∷◌, ◌++◌, map, refl, ap, sym, ◌∙◌}
use Rattle.registry_rules.specs.Accepted.{accepted_of, accepted_by}
use Rattle.registry_rules.specs.History.{History, founded}
use Rattle.registry_rules.specs.Run.{Legal, after, after_one, after_verdict, reply_to, reply_of, replies_to, request_of}
use Rattle.registry_rules.specs.Laws.{requests_of_record, replies_in}
use Rattle.registry_rules.specs.declared.deed.Deed.{Deed}
use Rattle.registry_rules.specs.declared.founding.Founding.{Founding}
use Rattle.registry_rules.specs.declared.order.Request.{Request}
use Rattle.registry_rules.specs.declared.verdict.Verdict.TheVariants.{New}
use Rattle.registry_rules.specs.declared.verdict.Reply.TheVariants.{Done}
use Rattle.registry_rules.proofs.RunLemmas.{legal_before, legal_verdict}

map_last : {A B : Type 0} (f : A → B) (xs : List A) (x : A) → map f (xs ++ x ∷ []) ≡ map f xs ++ f x ∷ []
map_last f [] x = refl
map_last f (y ∷ xs) x = ap (λ rest. f y ∷ rest) (map_last f xs x)

after_last : (h : History) (requests : List Request) (request : Request) → after h (requests ++ request ∷ []) ≡ after_one (after h requests) request
after_last h [] request = refl
after_last h (first ∷ requests) request = after_last (after_one h first) requests request

replies_last : (h : History) (requests : List Request) (request : Request) → replies_to h (requests ++ request ∷ []) ≡ replies_to h requests ++ reply_to (after h requests) request ∷ []
replies_last h [] request = refl
replies_last h (first ∷ requests) request = ap (λ replies. reply_to h first ∷ replies) (replies_last (after_one h first) requests request)

pub replayed : (founding : Founding) (deeds : List Deed) → Legal (record { founding = founding; deeds = deeds }) →
    after (founded founding) (requests_of_record (accepted_of deeds)) ≡ record { founding = founding; deeds = deeds }
replayed founding [] legal = refl
replayed founding (deed ∷ earlier) legal =
    ap (after (founded founding)) (map_last (λ accepted. accepted.request) (accepted_of earlier) (accepted_by deed))
    ∙ after_last (founded founding) (requests_of_record (accepted_of earlier)) (request_of deed)
    ∙ ap (λ h. after_one h (request_of deed)) (replayed founding earlier (legal_before founding deed earlier legal))
    ∙ ap (after_verdict (record { founding = founding; deeds = earlier })) (legal_verdict founding deed earlier legal)

pub replied : (founding : Founding) (deeds : List Deed) → Legal (record { founding = founding; deeds = deeds }) →
    replies_to (founded founding) (requests_of_record (accepted_of deeds)) ≡ replies_in (accepted_of deeds)
replied founding [] legal = refl
replied founding (deed ∷ earlier) legal =
    let requests = requests_of_record (accepted_of earlier) in
    ap (replies_to (founded founding)) (map_last (λ accepted. accepted.request) (accepted_of earlier) (accepted_by deed))
    ∙ replies_last (founded founding) requests (request_of deed)
    ∙ ap (λ h. replies_to (founded founding) requests ++ reply_to h (request_of deed) ∷ []) (replayed founding earlier (legal_before founding deed earlier legal))
    ∙ ap (λ v. replies_to (founded founding) requests ++ reply_of v ∷ []) (legal_verdict founding deed earlier legal)
    ∙ ap (λ replies. replies ++ reply_of (New deed) ∷ []) (replied founding earlier (legal_before founding deed earlier legal))
    ∙ sym (map_last (λ accepted. Done accepted.reply) (accepted_of earlier) (accepted_by deed))
