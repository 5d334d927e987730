use Rattle.std.proofs.Common.{ℕ, ◌≤◌, List, length, map, ap, sym, subst, ◌++◌, ◌∙◌}
use Rattle.doc_texts.specs.Edited.{Stand}
use Rattle.plain_mean.specs.Given.{text_in}
use Rattle.text_lines.specs.Walked.{Walked}
use Rattle.c_session.specs.Renames.{located_at}
use Rattle.c_session.proofs.Mapped.{mapped_ends, mapped_turns}
use Rattle.c_session.proofs.Passing.{none_left}
use Rattle.c_session.proofs.Placing.{begins_within, ends_within, placed_as, stands_behind}
use Rattle.c_session.proofs.editing.push_located.Goals as goal

pub turn-init : goal.turn-init
turn-init c = record {
  made = ap (λ rs. c.args.out.now.items ++ map (located_at c.args.docs.now c.args.encoding c.args.edits.now.path) rs) c.as_slice-rest.ensures.value;
  stands = (0, subst (Stand (text_in c.args.docs.now c.args.edits.now.path) 0) (sym c.as_slice-rest.ensures.value) c.requires);
  text = c.new-walk.ensures.text ∙ c.text_in.ensures.text;
  encoding = c.new-walk.ensures.encoding;
}

pub walked_to-requires : goal.walked_to-requires
walked_to-requires c =
    let text = text_in c.args.docs.now c.args.edits.now.path in
    record {
      start = subst (λ (t : List ℕ). c.in-Some.range.now.start ≤ length t) (sym c.turn.invariant.text) (begins_within text c.turn.rest.now c.in-Some.behind.now c.in-Some.range.now c.in-Some.ensures.cases.0 c.turn.invariant.stands);
      end = subst (λ (t : List ℕ). c.in-Some.range.now.end ≤ length t) (sym c.turn.invariant.text) (ends_within text c.turn.rest.now c.in-Some.behind.now c.in-Some.range.now c.in-Some.ensures.cases.0 c.turn.invariant.stands);
    }

pub turn-preserved : goal.turn-preserved
turn-preserved c = record {
  made = mapped_turns (located_at c.args.docs.now c.args.encoding c.args.edits.now.path) c.turn.rest.now c.in-Some.behind.now c.in-Some.range.now c.turn.out.items c.push.new.self.items c.in_ok-one.one _
      c.in-Some.ensures.cases.0 c.in_ok-push.ensures.items
      (placed_as c.args.docs.now c.args.encoding c.turn.walk.encoding c.args.edits.now.path c.in_ok-uri.uri c.turn.walk.text c.in-Some.range.now c.in_ok-one.one c.in_ok-one.ensures.located c.in_ok-uri.ensures
      c.turn.invariant.text c.turn.invariant.encoding) c.turn.invariant.made;
  stands = stands_behind (text_in c.args.docs.now c.args.edits.now.path) c.turn.rest.now c.in-Some.behind.now c.in-Some.range.now c.in-Some.ensures.cases.0 c.turn.invariant.stands;
  text = ap (λ (w : Walked). w.text) c.in_ok-one.ensures.same ∙ c.turn.invariant.text;
  encoding = ap (λ (w : Walked). w.encoding) c.in_ok-one.ensures.same ∙ c.turn.invariant.encoding;
}

pub returns : goal.returns
returns c = mapped_ends (located_at c.args.docs.now c.args.encoding c.args.edits.now.path) _ _ _ (none_left _ c.in_default.ensures.cases) c.turn.invariant.made
