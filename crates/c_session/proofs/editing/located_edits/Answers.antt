use Rattle.doc_texts.specs.Edited.{Stand}
use Rattle.doc_texts.specs.declared.ranges.TextEdits.{TextEdits}
use Rattle.plain_mean.specs.Given.{text_in}
use Rattle.plain_mean.specs.Ranges.{plain}
use Rattle.c_session.specs.Renames.{located_in}
use Rattle.c_session.proofs.Mapped.{all_behind, all_first, joined_ends, joined_turns}
use Rattle.c_session.proofs.Passing.{none_left}
use Rattle.c_session.proofs.editing.located_edits.Goals as goal

pub push_located-requires : goal.push_located-requires
push_located-requires c = all_first (λ (e : TextEdits). Stand (text_in c.args.docs.now e.path) 0 e.ranges.items) c.turn.rest.now c.in-Some.behind.now c.in-Some.one.now c.in-Some.ensures.cases.0 c.turn.invariant.stand

pub turn-preserved : goal.turn-preserved
turn-preserved c = record {
  made = joined_turns plain (located_in c.args.docs.now c.args.encoding) c.turn.rest.now c.in-Some.behind.now c.in-Some.one.now c.turn.out.items c.push_located.new.out.items _ c.in-Some.ensures.cases.0
      c.in_ok-push_located.ensures c.turn.invariant.made;
  stand = all_behind (λ (e : TextEdits). Stand (text_in c.args.docs.now e.path) 0 e.ranges.items) c.turn.rest.now c.in-Some.behind.now c.in-Some.one.now c.in-Some.ensures.cases.0 c.turn.invariant.stand;
}

pub returns : goal.returns
returns c = joined_ends plain (located_in c.args.docs.now c.args.encoding) _ _ _ (none_left _ c.in_default.ensures.cases) c.turn.invariant.made
