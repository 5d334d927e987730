use Rattle.std.proofs.Common.{None, ap, subst, ◌+◌, length, ◌∙◌}
use Rattle.doc_texts.specs.Texts.{Texts, texts_under}
use Rattle.c_session.specs.Ties.News.{IsPrior}
use Rattle.c_session.proofs.Before.{were_lexed}
use Rattle.c_session.proofs.NoTexts.{all_renewed}
use Rattle.c_session.proofs.analysis.analysed.Goals as goal

pub renewed-requires-clause-lexed : goal.renewed-requires-clause-lexed
renewed-requires-clause-lexed g c =
    let prior = subst (λ (t : Texts). IsPrior t c.in_ok-prior.prior c.args.docs.now) c.new-none.ensures c.in_ok-prior.ensures in
    were_lexed (texts_under None) c.args.docs.now c.in_ok-prior.prior prior c.new-nothing.result.lexings (c.new-nothing.ensures c.args.conf.now).lexed

pub returns-clause-analysis : goal.returns-clause-analysis
returns-clause-analysis g c =
    let prior = subst (λ (t : Texts). IsPrior t c.in_ok-prior.prior c.args.docs.now) c.new-none.ensures c.in_ok-prior.ensures in
    c.in_ok-renewed.ensures.analysis (texts_under None) c.args.conf.now prior (c.new-nothing.ensures c.args.conf.now)

pub returns-clause-steps : goal.returns-clause-steps
returns-clause-steps g c =
    let prior = subst (λ (t : Texts). IsPrior t c.in_ok-prior.prior c.args.docs.now) c.new-none.ensures c.in_ok-prior.ensures in
    c.in_ok-renewed.ensures.steps (texts_under None) c.args.conf.now prior (c.new-nothing.ensures c.args.conf.now)
    ∙ ap (λ us. c.args.steps.now + length us) (all_renewed c.paths_are_sets.ensures.members c.args.docs.now c.args.conf.now c.args.conf.now)
