use Rattle.std.proofs.Common.{◌≡◌, ap, sym, ◌∙◌, true, [], ◌∷◌, ◌++◌}
use Rattle.std.specs.HashMap.{get_by_text}
use Rattle.include_units.specs.Names.{is_one_of}
use Rattle.include_units.proofs.FirstLemmas.{known_more}
use Rattle.include_units.proofs.known.KnownNames.push.Goals as goal

pub invariant_of-self-2 : goal.invariant_of-self-2
invariant_of-self-2 c = λ text.
    let items : c.push_reserved.new.self.items ≡ c.self.inside.items.items ++ c.args.text.now ∷ [] =
    c.push_reserved.ensures.items ∙ ap (λ xs. xs ++ c.in_ok-name.name ∷ []) c.reserve.ensures.items
    ∙ ap (λ n. c.self.inside.items.items ++ n ∷ []) c.in_ok-name.ensures in
    known_more c.self.inside.items.items c.args.text.now text (get_by_text c.self.inside.texts text) (get_by_text c.put.new.map text) true (c.self.invariant text) (c.in_ok-put.ensures.put text)
    ∙ ap (λ xs. is_one_of xs text) (sym items)
