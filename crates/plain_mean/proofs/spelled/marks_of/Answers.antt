use Rattle.std.proofs.Common.{sym, subst}
use Rattle.std.proofs.lemmas.List.{nil_from_length}
use Rattle.plain_mean.specs.Given.{given}
use Rattle.plain_mean.specs.Reads.{AreRead}
use Rattle.plain_mean.specs.Spelled.{tokens_read}
use Rattle.plain_mean.proofs.Spelling.{marking_begins, marking_ends, marking_turns}
use Rattle.plain_mean.proofs.spelled.marks_of.Goals as goal

pub toks-init : goal.toks-init
toks-init c = marking_begins c.args.lexings.now c.args.defines.now c.args.answered.now c.args.spelled.now c.new-marks.result.items c.new-held.result c.new-marks.ensures.items c.new-held.ensures

pub tokens_at-requires-clause-held : goal.tokens_at-requires-clause-held
tokens_at-requires-clause-held c =
    subst (λ t. AreRead (tokens_read (given t) c.args.defines.now c.args.answered.now) c.toks.held) (sym c.toks.invariant.stays) c.toks.invariant.held_right

pub toks-preserved : goal.toks-preserved
toks-preserved c =
    marking_turns c.args.lexings.now c.args.defines.now c.args.answered.now c.args.spelled.now c.toks.rest.now c.in-Some.behind.now c.in-Some.tok.now c.toks.marks.items c.push.new.self.items c.toks.held
    c.tokens_at.new.held c.toks.lexings c.tokens_at.new.lexings c.in_ok-tokens.tokens c.in_ok-mark.mark c.toks.invariant c.in-Some.ensures.cases.0 c.in_ok-tokens.ensures.same c.in_ok-tokens.ensures.tokens
    c.in_ok-tokens.ensures.held c.in_ok-mark.ensures c.in_ok-push.ensures.items

pub returns-clause-marks : goal.returns-clause-marks
returns-clause-marks c =
    marking_ends c.args.lexings.now c.args.defines.now c.args.answered.now c.args.spelled.now c.toks.rest.now c.toks.marks.items c.toks.held c.toks.lexings c.toks.invariant
    (nil_from_length c.toks.rest.now c.in_default.ensures.cases)
