-- A character is joined to what was joined before.
use Rattle.std.proofs.Common.{subst, List, ℕ, string_bytes, IsUtf8}
use Rattle.c_tokens.specs.Reading.{IsNext}
use Rattle.c_tokens.proofs.FindingLemmas.{spelling_turns, enough_turns}
use Rattle.c_tokens.proofs.lexing.spelled.Goals as goal

pub loop-left-preserved : goal.loop-left-preserved
loop-left-preserved c =
    let next : IsNext c.args.text.now c.loop-left.place c.in-Some.read = subst (λ (t : List ℕ). IsNext t c.loop-left.place c.in-Some.read) c.as_bytes.ensures.value c.in-Some.ensures in
    let utf8 : IsUtf8 c.args.text.now = subst (λ (t : List ℕ). IsUtf8 t) c.as_bytes.ensures.value c.as_bytes.ensures.utf8 in
    record {
      joined = spelling_turns c.args.text.now c.loop-left.place c.loop-left.left c.in-Some.read (string_bytes c.loop-left.out) _ _ c.loop-left-test.true next (c.in_ok-push_character.ensures) c.loop-left.invariant.joined;
      enough = enough_turns c.args.text.now c.loop-left.place c.loop-left.left c.in-Some.read next c.loop-left.invariant.enough;
      boundary = next.boundary utf8 c.loop-left.invariant.boundary;
    }
