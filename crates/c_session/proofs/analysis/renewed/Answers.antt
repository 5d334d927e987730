use Rattle.std.proofs.Common.{rules, ◌≡◌, ◌+◌, ◌&&◌, false, cond, ℕ, List, None, Some, IfSome, length, map, ap, subst, sym, ◌∙◌}
use Rattle.std.specs.List.{filter}
use Rattle.std.specs.Prelude.{not}
use Rattle.plain_mean.specs.Lexing.{WereLexed}
use Rattle.plain_mean.specs.Renewed.{IsGrounds}
use Rattle.plain_mean.specs.Shown.{units}
use Rattle.plain_mean.specs.declared.lexings.KeptLexings.{KeptLexings}
use Rattle.plain_mean.specs.declared.types.Grounds.{Grounds}
use Rattle.c_session.specs.Units.{WereCrossed}
use Rattle.c_session.proofs.Seeing.{both, is_not, paths_are, were_crossed, where_kept}
use Rattle.c_session.specs.declared.held.Waiting.{Waiting}
use Rattle.c_session.specs.Renewal.{HaveNews, RestOn, due_at, held_at, held_of, stand_at, unit_at}
use Rattle.c_session.proofs.Before.{text_before_is}
use Rattle.c_session.proofs.Holding.{held_was, units_apart}
use Rattle.c_session.proofs.Renewing.{due_are, grounds_are, stands, units_are}
use Rattle.c_session.proofs.analysis.renewed.Goals as goal

pub of-requires-2 : goal.of-requires-2
of-requires-2 g c = subst (λ (k : KeptLexings). WereLexed c.args.prior.now c.args.docs.now k) (sym c.in_ok-shown.ensures.lexings) c.requires.lexed

pub units_now-requires-clause-apart : goal.units_now-requires-clause-apart
units_now-requires-clause-apart g c =
    units_apart c.args.docs.now c.args.conf.now c.as_slice-all.result.now (c.paths_are_sets.ensures.ascends c.args.docs.now)
    (c.as_slice-all.ensures.value ∙ c.in_ok-paths.ensures.units ∙ ap (units c.args.docs.now) c.in_ok-reading.ensures)

pub returns-clause-analysis : goal.returns-clause-analysis
returns-clause-analysis g c = λ t read is are.
    let docs = c.args.docs.now in
    let conf = c.args.conf.now in
    let prior = c.args.prior.now in
    let held = held_at c.in_ok-shown.waiting in
    let paths : c.as_slice-all.result.now ≡ units c.args.docs.now c.args.conf.now = c.as_slice-all.ensures.value ∙ c.in_ok-paths.ensures.units ∙ ap (units c.args.docs.now) c.in_ok-reading.ensures in
    let waits : (q : List ℕ) → held_at c.in_ok-shown.waiting q ≡ held_of c.args.kept.units.items c.args.kept.grounds.items q None = λ q. ap (λ (w : Waiting). held_at w q) (sym c.in_ok-shown.waiting-is) ∙ c.in_ok-shown.ensures.waiting q in
    let stays = c.units_stay.ensures.meaning t docs read conf in
    let rests = c.units_stay.ensures.grounds t docs read conf in
    let holds = λ (unit : List ℕ) (grounds : Grounds) (rest : IsGrounds t read unit grounds). c.grounds_hold.ensures prior t docs read conf unit grounds (text_before_is t docs prior is) rest in
    let were = λ (q : List ℕ). held_was t read c.args.kept.units.items c.args.kept.grounds.items q (held q) are.units are.grounds (waits q) in
    let made : c.in_ok-standing.standing.units.items ≡ map (unit_at (held_at c.in_ok-shown.waiting) c.args.prior.now c.args.docs.now c.args.conf.now) c.as_slice-all.result.now = search rules in
    let rested : RestOn (held_at c.in_ok-shown.waiting) c.args.prior.now c.args.docs.now c.args.conf.now c.as_slice-all.result.now c.in_ok-standing.standing.grounds.items = search rules in
    let over : c.units_now.new.lexings ≡ c.args.docs.now = search rules in
    let us = c.in_ok-standing.standing.units.items in
    let same : c.stand_at-same.result ≡ stand_at c.args.kept.units.items c.as_slice-all.result.now = search rules in
    let seen : c.in_ok-standing.standing.has_new ≡ false → HaveNews (held_at c.in_ok-shown.waiting) c.as_slice-all.result.now c.in_ok-standing.standing.units.items c.in_ok-standing.standing.news = search rules in
    let keeps : c.across_where-stays.result ≡ cond (c.stand_at-same.result && not c.in_ok-standing.standing.has_new) (Some c.args.kept.across) None = search rules in
    let stay : IfSome c.across_where-stays.result (λ k. WereCrossed k.items c.in_ok-standing.standing.news c.in_ok-standing.standing.units.items) =
    where_kept c.across_where-stays.result (c.stand_at-same.result && not c.in_ok-standing.standing.has_new) c.args.kept.across (λ k. WereCrossed k.items c.in_ok-standing.standing.news us) keeps
    (λ on.
    let parts = both c.stand_at-same.result (not c.in_ok-standing.standing.has_new) on in
    let at = paths_are c.args.kept.units.items c.as_slice-all.result.now (sym same ∙ parts.0) in
    were_crossed t read held were c.as_slice-all.result.now c.args.kept.units.items us c.in_ok-standing.standing.news c.args.kept.across.items are.units at
    (seen (is_not c.in_ok-standing.standing.has_new parts.1)) are.across) in
    stands c.units_now.new.lexings docs conf c.in_ok-analysis.analysis c.in_ok-standing.standing.units.items c.in_ok-standing.standing.grounds.items over
    c.in_ok-analysis.ensures.units c.in_ok-analysis.ensures.grounds
    (made ∙ units_are t docs prior read conf stays rests holds held were c.as_slice-all.result.now paths)
    (grounds_are t docs prior read conf stays rests holds held were c.as_slice-all.result.now c.in_ok-standing.standing.grounds.items paths rested)
    (c.in_ok-analysis.ensures.shown stay) c.in_ok-analysis.ensures.within c.in_ok-analysis.ensures.lexed (c.in_ok-analysis.ensures.across stay)

pub returns-clause-steps : goal.returns-clause-steps
returns-clause-steps g c = λ t read is are.
    let docs = c.args.docs.now in
    let conf = c.args.conf.now in
    let prior = c.args.prior.now in
    let held = held_at c.in_ok-shown.waiting in
    let paths : c.as_slice-all.result.now ≡ units c.args.docs.now c.args.conf.now = c.as_slice-all.ensures.value ∙ c.in_ok-paths.ensures.units ∙ ap (units c.args.docs.now) c.in_ok-reading.ensures in
    let waits : (q : List ℕ) → held_at c.in_ok-shown.waiting q ≡ held_of c.args.kept.units.items c.args.kept.grounds.items q None = λ q. ap (λ (w : Waiting). held_at w q) (sym c.in_ok-shown.waiting-is) ∙ c.in_ok-shown.ensures.waiting q in
    let stays = c.units_stay.ensures.meaning t docs read conf in
    let rests = c.units_stay.ensures.grounds t docs read conf in
    let holds = λ (unit : List ℕ) (grounds : Grounds) (rest : IsGrounds t read unit grounds). c.grounds_hold.ensures prior t docs read conf unit grounds (text_before_is t docs prior is) rest in
    let were = λ (q : List ℕ). held_was t read c.args.kept.units.items c.args.kept.grounds.items q (held q) are.units are.grounds (waits q) in
    let counted : c.units_now.new.steps ≡ c.args.steps.now + length (filter (due_at (held_at c.in_ok-shown.waiting) c.args.prior.now c.args.docs.now c.args.conf.now) c.as_slice-all.result.now) = search rules in
    counted ∙ ap (λ us. c.args.steps.now + length us) (due_are t docs prior read conf stays rests holds held were c.as_slice-all.result.now paths)
