use Rattle.std.proofs.Common.{ap, sym, ◌∙◌, drop}
use Rattle.std.specs.Prelude.{option_map}
use Rattle.macro_expand.specs.Ties.Looks.{seen}
use Rattle.macro_expand.specs.Ties.Parens.{parens}
use Rattle.macro_expand.specs.Ties.Rests.{laid}
use Rattle.macro_expand.proofs.ListLemmas.{drop_at}
use Rattle.macro_expand.proofs.ParensLemmas.{call_is_open}
use Rattle.macro_expand.proofs.rest.Rest.is_open.Goals as goal

pub returns-then-is_mark : goal.returns-then-is_mark
returns-then-is_mark c = λ open_first def.
    let all = c.args.self.now in
    let first = seen c.in-Some.first in
    call_is_open def all first (drop 1 all)
    (drop_at all 0 first (sym c.look.ensures.value ∙ ap (option_map seen) c.in-Some.is))
    (sym c.is_mark.ensures ∙ c.if-is_mark.true)
    (λ ns n is. c.is_first_open.ensures open_first (parens (laid c.self.inside.front.items c.self.inside.behind.now))
    c.self.invariant ns n (ap (λ ts. (parens ts).1) c.self.view_is ∙ is))
