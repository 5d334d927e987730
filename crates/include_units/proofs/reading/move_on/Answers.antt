use Rattle.std.proofs.Common.{sym, subst}
use Rattle.include_units.specs.Left.{IsMoved, hand_left}
use Rattle.include_units.proofs.reading.move_on.Goals as goal

pub returns-in_ok-moved-in-Empty : goal.returns-in_ok-moved-in-Empty
returns-in_ok-moved-in-Empty c =
    subst (λ h. IsMoved c.args.files.now c.args.folders.now c.args.place.now (hand_left c.args.folders.now c.args.place.now c.args.rest.now c.args.opens.now h c.args.made.now) c.begin_part.new.rest c.args.opens.now c.begin_part.new.made c.in_ok-moved-in-Empty.moved) (sym c.in-Empty.is)
    (c.in_ok-moved-in-Empty.ensures c.args.files.now c.args.folders.now)

pub returns-in_ok-moved-in-Holds : goal.returns-in_ok-moved-in-Holds
returns-in_ok-moved-in-Holds c =
    subst (λ h. IsMoved c.args.files.now c.args.folders.now c.args.place.now (hand_left c.args.folders.now c.args.place.now c.args.rest.now c.args.opens.now h c.args.made.now) c.args.rest.now c.read_in_hand.new.opens c.read_in_hand.new.made c.in_ok-moved-in-Holds.moved) (sym c.in-Holds.is)
    (c.in_ok-moved-in-Holds.ensures c.args.rest.now)

pub returns-in_ok-moved-in-Seeks : goal.returns-in_ok-moved-in-Seeks
returns-in_ok-moved-in-Seeks c =
    subst (λ h. IsMoved c.args.files.now c.args.folders.now c.args.place.now (hand_left c.args.folders.now c.args.place.now c.args.rest.now c.args.opens.now h c.args.made.now) c.args.rest.now c.args.opens.now c.search_on.new.made c.in_ok-moved-in-Seeks.moved) (sym c.in-Seeks.is)
    (c.in_ok-moved-in-Seeks.ensures c.args.folders.now c.args.place.now c.args.rest.now c.args.opens.now)

pub returns-in_ok-moved-in-Enters : goal.returns-in_ok-moved-in-Enters
returns-in_ok-moved-in-Enters c =
    subst (λ h. IsMoved c.args.files.now c.args.folders.now c.args.place.now (hand_left c.args.folders.now c.args.place.now c.args.rest.now c.args.opens.now h c.args.made.now) c.args.rest.now c.args.opens.now c.enter_text.new.made c.in_ok-moved-in-Enters.moved) (sym c.in-Enters.is)
    (c.in_ok-moved-in-Enters.ensures c.args.folders.now c.args.rest.now c.args.opens.now)
