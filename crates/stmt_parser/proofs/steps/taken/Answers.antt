use Rattle.std.proofs.Common.{◌≤◌, ◌∙◌, refl, sym, subst, ap, arith, length}
use Rattle.tree_data.specs.Stated.{lead_of, leads_of}
use Rattle.stmt_parser.specs.Frames.{Opens}
use Rattle.stmt_parser.specs.Steps.{FoundStep, behind_step}
use Rattle.stmt_parser.proofs.OutsideRead.{led_on, opened_on, whole_on}
use Rattle.stmt_parser.proofs.StatementsRead.{mapped}
use Rattle.stmt_parser.proofs.FramesRead.{pending_led, pending_opened, pending_whole}
use Rattle.stmt_parser.proofs.steps.taken.Goals as goal

pub returns-in-Led-clause-led : goal.returns-in-Led-clause-led
returns-in-Led-clause-led c = led_on _ _ c.in-Led.is _ _ _ (refl, refl)

pub returns-in-Led-clause-goes : goal.returns-in-Led-clause-goes
returns-in-Led-clause-goes c =
    let stepped = c.requires.stepped in
    pending_led c.requires.law _ _ _ _ _ _ stepped.pending _ _
    (subst (λ s. FoundStep stepped.before c.args.place s c.args.next) c.in-Led.is stepped.found)
    _
    (stepped.past ∙ ap (behind_step stepped.before) c.in-Led.is)
    _
    (ap leads_of c.in-Ok.ensures.items ∙ mapped lead_of _ _)

pub inside_opener-requires-clause-size : goal.inside_opener-requires-clause-size
inside_opener-requires-clause-size c =
    let near : c.args.place ≤ length c.args.scope.now.kinds = c.requires.stepped.pending.within in
    omega (arith, near, c.requires.size)

pub inside_opener-requires-clause-opens : goal.inside_opener-requires-clause-opens
inside_opener-requires-clause-opens c =
    let stepped = c.requires.stepped in
    subst
    (λ w. Opens w c.args.place c.in-Opened.opener)
    (sym (stepped.past ∙ ap (behind_step stepped.before) c.in-Opened.is))
    (subst (λ s. FoundStep stepped.before c.args.place s c.args.next) c.in-Opened.is stepped.found).opens

pub returns-in-Ok-opened-clause-led : goal.returns-in-Ok-opened-clause-led
returns-in-Ok-opened-clause-led c = opened_on _ _ c.in-Opened.is _ _ _

pub returns-clause-led : goal.returns-clause-led
returns-clause-led c = whole_on _ _ c.in-Whole.is _ _ _

pub returns-in-Ok-opened-clause-goes : goal.returns-in-Ok-opened-clause-goes
returns-in-Ok-opened-clause-goes c =
    let stepped = c.requires.stepped in
    pending_opened c.requires.law _ _ _ _ _ _ _ stepped.pending _
    (subst (λ s. FoundStep stepped.before c.args.place s c.args.next) c.in-Opened.is stepped.found)
    (stepped.past ∙ ap (behind_step stepped.before) c.in-Opened.is)
    c.in-Ok-inside_opener.ensures
    refl
    _
    c.in-Ok-opened.ensures
    _
    (ap leads_of c.new.ensures.items)

pub close-requires-clause-awaited : goal.close-requires-clause-awaited
close-requires-clause-awaited c =
    let stepped = c.requires.stepped in
    pending_whole c.requires.law _ _ _ _ _ _ stepped.pending _ _
    (subst (λ s. FoundStep stepped.before c.args.place s c.args.next) c.in-Whole.is stepped.found)
