use Rattle.std.proofs.Common.{sym, ◌∙◌, length, ap}
use Rattle.query_core.specs.Marking.{all_marked}
use Rattle.query_core.specs.Readers.{clean_readers}
use Rattle.query_core.specs.Stored.{clean_in}
use Rattle.query_core.proofs.Marking.{finding_begins, finding_turns, finding_less}
use Rattle.query_core.proofs.Reached.{found_reaches, reach_below}
use Rattle.query_core.proofs.opening.reaching.Goals as goal

pub places-init : goal.places-init
places-init g c =
    finding_begins (clean_readers c.args.readers.now (clean_in c.args.nodes.now.slots)) (clean_readers c.args.readers.now (clean_in c.args.nodes.now.slots) c.args.node) c.mark_readers.new.reached
    (c.in_ok-mark_readers.ensures ∙ ap (λ l. all_marked l (clean_readers c.args.readers.now (clean_in c.args.nodes.now.slots) c.args.node)) c.new-reached.ensures)

pub places-smaller : goal.places-smaller
places-smaller g c =
    finding_less (clean_readers c.args.readers.now (clean_in c.args.nodes.now.slots)) (clean_readers c.args.readers.now (clean_in c.args.nodes.now.slots) c.args.node) c.places.reached c.mark_readers-in-Some.new.reached c.places.place c.in-Some.next c.places.invariant (sym c.in-Some.ensures.value)
    c.in_ok-mark_readers-2.ensures (length c.args.nodes.now.slots) (reach_below c.args.readers.now c.args.nodes.now.slots c.args.node)

pub places-preserved : goal.places-preserved
places-preserved g c =
    finding_turns (clean_readers c.args.readers.now (clean_in c.args.nodes.now.slots)) (clean_readers c.args.readers.now (clean_in c.args.nodes.now.slots) c.args.node) c.places.reached c.mark_readers-in-Some.new.reached c.places.place c.in-Some.next c.places.invariant (sym c.in-Some.ensures.value) c.in_ok-mark_readers-2.ensures

pub returns : goal.returns
returns g c = found_reaches c.args.readers.now (clean_in c.args.nodes.now.slots) c.args.node c.places.reached c.places.place c.places.invariant (sym c.get.ensures.value ∙ c.in_default.is)
