use Rattle.std.proofs.Common.{map, ap, sym, subst, ◌++◌, ◌∙◌}
use Rattle.std.specs.List.{filter_map}
use Rattle.std.proofs.lemmas.List.{nil_from_length}
use Rattle.c_tokens.specs.Lexed.{lexed}
use Rattle.doc_texts.specs.Edited.{CanAllBeMade}
use Rattle.plain_mean.specs.Collected.{Ascend}
use Rattle.plain_mean.specs.Given.{text_in}
use Rattle.plain_mean.specs.Ranges.{plain, range_at, ranges_at_path, ranges_of}
use Rattle.plain_mean.proofs.Ranging.{can_turn, edits_end, edits_turn, they_ascend}
use Rattle.plain_mean.proofs.ranges.edits_of.Goals as goal

pub turn-init : goal.turn-init
turn-init c = record {
  made =
      (λ i. map plain (c.new-edits.ensures.items i) ++ map (ranges_at_path c.args.docs.now c.args.toks.now) (c.as_slice-rest.ensures.value i))
      ∙ ap (map (ranges_at_path c.args.docs.now c.args.toks.now)) c.in_ok-paths.ensures;
  can = λ short sorted. subst (CanAllBeMade c.args.docs.now) (sym c.new-edits.ensures.items) tt;
}

pub turn-preserved : goal.turn-preserved
turn-preserved c = record {
  made =
      edits_turn c.args.docs.now c.args.toks.now c.in-Some.path.now c.turn.rest.now c.in-Some.behind.now c.turn.edits.items c.push.new.self.items c.in_ok-made.made
      (ranges_of c.args.docs.now c.args.toks.now) c.in-Some.ensures.cases.0 c.in_ok-push.ensures.items c.in_ok-made.ensures.path
      (c.in_ok-made.ensures.ranges
      ∙ ap (filter_map (range_at (lexed (text_in c.args.docs.now c.in-Some.path.now)).places)) (c.in_ok-numbers.ensures c.in-Some.path.now))
      c.turn.invariant.made;
  can = λ short sorted.
      can_turn c.args.docs.now c.turn.edits.items c.push.new.self.items c.in_ok-made.made c.in_ok-push.ensures.items (c.turn.invariant.can short sorted)
      (c.in_ok-made.ensures.can short
      (subst (λ ns. Ascend 0 ns) (sym (c.in_ok-numbers.ensures c.in-Some.path.now)) (they_ascend c.in-Some.path.now c.args.toks.now sorted)));
}

pub returns-clause-edits : goal.returns-clause-edits
returns-clause-edits c =
    edits_end c.args.docs.now c.args.toks.now c.turn.rest.now c.turn.edits.items (ranges_of c.args.docs.now c.args.toks.now) (nil_from_length c.turn.rest.now c.in_default.ensures.cases) c.turn.invariant.made
