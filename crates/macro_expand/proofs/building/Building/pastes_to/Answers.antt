use Rattle.std.proofs.Common.{List, [], ◌∷◌, ◌++◌, ap, ◌∙◌, append_assoc}
use Rattle.std.specs.Prelude.{option_map}
use Rattle.macro_expand.specs.declared.types.Marked.{Marked}
use Rattle.macro_expand.proofs.BuildingLemmas.{pasted_alone, pasted_one, pasted_two}
use Rattle.macro_expand.proofs.building.Building.pastes_to.Goals as goal

pub returns-in_default-clause-value : goal.returns-in_default-clause-value
returns-in_default-clause-value c = λ f h.
    pasted_alone f c.args.site.now c.args.right c.args.behind c.append.new.self c.args.self.now
    (c.pop.ensures.last ∙ ap (option_map (λ (t : Marked). (c.pop.new.self, t))) c.in_default.is)
    (c.in_ok-append.ensures ∙ ap (λ (x : List Marked). x ++ c.args.behind)
    (c.in_ok-push.ensures ∙ ap (λ (x : List Marked). x ++ c.args.right ∷ []) c.in_default.ensures.ended))

pub returns-in_ok-append-in-Some-pasted-clause-value : goal.returns-in_ok-append-in-Some-pasted-clause-value
returns-in_ok-append-in-Some-pasted-clause-value c = λ f h.
    pasted_one f c.args.site.now c.pop.new.self c.in-Some.left c.args.right c.in-Some-pasted.token c.args.behind
    c.append-in-Some-pasted.new.self c.args.self.now c.in_ok-pasted.pasted
    (c.pop.ensures.last ∙ ap (option_map (λ (t : Marked). (c.pop.new.self, t))) c.in-Some.is)
    (c.in_ok-pasted.ensures.value f h) c.in-Some-pasted.is
    (c.in_ok-append-in-Some-pasted.ensures ∙ ap (λ (x : List Marked). x ++ c.args.behind) c.in_ok-push-in-Some-pasted.ensures
    ∙ append_assoc c.pop.new.self (c.in-Some-pasted.token ∷ []) c.args.behind)

pub returns-in_ok-faulty-in-None-clause-value : goal.returns-in_ok-faulty-in-None-clause-value
returns-in_ok-faulty-in-None-clause-value c = λ f h.
    let front = c.pop.new.self in
    pasted_two f c.args.site.now front c.in-Some.left c.args.right c.args.behind
    c.append-in-None.new.self c.args.self.now c.faulty.new.self c.in_ok-pasted.pasted
    (c.pop.ensures.last ∙ ap (option_map (λ (t : Marked). (front, t))) c.in-Some.is)
    (c.in_ok-pasted.ensures.value f h) c.in-None.is
    (c.in_ok-append-in-None.ensures
    ∙ ap (λ (x : List Marked). x ++ c.args.behind)
    (c.in_ok-push-in-None-2.ensures ∙ ap (λ (x : List Marked). x ++ c.args.right ∷ []) c.in_ok-push-in-None.ensures)
    ∙ append_assoc (front ++ c.in-Some.left ∷ []) (c.args.right ∷ []) c.args.behind
    ∙ append_assoc front (c.in-Some.left ∷ []) (c.args.right ∷ c.args.behind))
    c.in_ok-faulty-in-None.ensures
