use Rattle.std.proofs.Common.{sym, ◌∙◌, ap, subst, ◌++◌, ◌∷◌, []}
use Rattle.query_core.specs.Lists.{Has}
use Rattle.query_core.proofs.Words.{Has-left, Has-middle}
use Rattle.query_core.proofs.readers.Row.push.Goals as goal

pub returns-clause-more : goal.returns-clause-more
returns-clause-more c =
    rw (← c.self.view_is)
    (λ e h. subst (λ l. Has l e) (sym (c.push_reserved.ensures.items ∙ ap (λ l. l ++ c.args.reader ∷ []) c.in_ok-reserve.ensures.items)) (Has-left c.self.inside.readers.items (c.args.reader ∷ []) e h))

pub returns-clause-added : goal.returns-clause-added
returns-clause-added c =
    subst (λ l. Has l c.args.reader) (sym (c.push_reserved.ensures.items ∙ ap (λ l. l ++ c.args.reader ∷ []) c.in_ok-reserve.ensures.items)) (Has-middle c.self.inside.readers.items [] c.args.reader)
