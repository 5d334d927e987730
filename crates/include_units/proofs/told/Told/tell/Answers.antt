use Rattle.std.proofs.Common.{◌≡◌, ap, sym, ◌∙◌, subst, ◌∷◌, ◌++◌, []}
use Rattle.std.specs.HashMap.{get_by_text}
use Rattle.include_units.specs.Coming.{AreShort}
use Rattle.include_units.specs.Files.{Exists, Text, Lines}
use Rattle.include_units.proofs.TellLemmas.{told_at, short_more}
use Rattle.include_units.proofs.told.Told.tell.Goals as goal

pub invariant_of-self-2 : goal.invariant_of-self-2
invariant_of-self-2 c =
    let items : c.push_reserved.new.self.items ≡ c.self.inside.answers.items ++ (c.args.path, c.args.answer) ∷ [] =
    c.push_reserved.ensures.items ∙ ap (λ xs. xs ++ (c.args.path, c.args.answer) ∷ []) c.reserve.ensures.items in (
      λ path. told_at c.self.inside.answers.items c.push_reserved.new.self.items c.args.path c.as_str.result.now c.args.answer (Exists path) (get_by_text c.self.inside.held path) (get_by_text c.enter.new.held path) (c.self.invariant.0 path) (c.in_ok-enter.ensures.held path) c.as_str.ensures.text items,
      λ path. told_at c.self.inside.answers.items c.push_reserved.new.self.items c.args.path c.as_str.result.now c.args.answer (Text path) (get_by_text c.self.inside.texts path) (get_by_text c.enter.new.texts path) (c.self.invariant.1 path) (c.in_ok-enter.ensures.texts path) c.as_str.ensures.text items,
      λ path. told_at c.self.inside.answers.items c.push_reserved.new.self.items c.args.path c.as_str.result.now c.args.answer (Lines path) (get_by_text c.self.inside.lines path) (get_by_text c.enter.new.lines path) (c.self.invariant.2 path) (c.in_ok-enter.ensures.lines path) c.as_str.ensures.text items,
      subst AreShort (sym items) (short_more c.self.inside.answers.items c.args.path c.args.answer c.self.invariant.3 c.requires),
    )
