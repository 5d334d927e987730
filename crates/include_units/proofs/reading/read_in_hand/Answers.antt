use Rattle.std.proofs.Common.{◌≡◌, sym, ap, ◌∙◌, subst, Err}
use Rattle.asking.specs.LookUps.{look_up}
use Rattle.include_units.specs.declared.inclusion.Next.{Next}
use Rattle.include_units.specs.declared.reading.Hand.TheVariants.{Holds}
use Rattle.include_units.specs.declared.stop.Stop.TheVariants.{Need}
use Rattle.include_units.specs.Coming.{Stops, AtNeed}
use Rattle.include_units.specs.Files.{files}
use Rattle.include_units.specs.Left.{hand_left, walked_left}
use Rattle.include_units.specs.Parted.{part_behind}
use Rattle.include_units.specs.Rests.{rest_of}
use Rattle.include_units.specs.Units.{is_deep}
use Rattle.include_units.proofs.Moving.{part_on, part_seeks, part_waits}
use Rattle.include_units.proofs.reading.read_in_hand.Goals as goal

pub returns-in-Ok-Onward : goal.returns-in-Ok-Onward
returns-in-Ok-Onward c = λ rest.
    part_on c.args.files.now c.args.folders.now c.args.place.now rest c.args.opens.now c.read_part.new.opens c.args.part c.args.made.now c.read_part.new.made
    (ap (λ b. rest_of (look_up files c.args.files.now) (part_behind c.args.folders.now b c.args.place.now.text c.args.part c.args.opens.now c.args.made.now)) (sym c.is_deep-deep.ensures)
    ∙ c.in-Ok-Onward.ensures.left
    ∙ ap (λ (x : Next). rest_of (look_up files c.args.files.now) (walked_left c.read_part.new.opens x c.read_part.new.made)) c.in-Ok-Onward.field-0-is)

pub returns-in-Ok-Seeks : goal.returns-in-Ok-Seeks
returns-in-Ok-Seeks c = λ rest.
    part_seeks c.args.files.now c.args.folders.now c.args.place.now rest c.args.opens.now c.read_part.new.opens c.args.part c.args.made.now c.read_part.new.made c.in-Ok-Seeks.search
    (ap (λ b. rest_of (look_up files c.args.files.now) (part_behind c.args.folders.now b c.args.place.now.text c.args.part c.args.opens.now c.args.made.now)) (sym c.is_deep-deep.ensures)
    ∙ c.in-Ok-Seeks.ensures.left
    ∙ ap (λ (x : Next). rest_of (look_up files c.args.files.now) (walked_left c.read_part.new.opens x c.read_part.new.made)) c.in-Ok-Seeks.field-0-is)

pub returns-in-Err-Need : goal.returns-in-Err-Need
returns-in-Err-Need c = λ rest.
    let kept : (c.read_part.new.opens ≡ c.args.opens.now) × (c.read_part.new.made ≡ c.args.made.now) =
    subst (λ s. AtNeed {B = Next} (Err s) ((c.read_part.new.opens ≡ c.args.opens.now) × (c.read_part.new.made ≡ c.args.made.now))) c.in-Err-Need.field-0-is c.in-Err-Need.ensures.kept in
    let stops : Stops c.args.files.now (part_behind c.args.folders.now (is_deep c.args.place.now.depth) c.args.place.now.text c.args.part c.args.opens.now c.args.made.now) (Need c.in-Err-Need.want) =
    subst (λ b. Stops c.args.files.now (part_behind c.args.folders.now b c.args.place.now.text c.args.part c.args.opens.now c.args.made.now) (Need c.in-Err-Need.want)) c.is_deep-deep.ensures
    (subst (λ s. Stops c.args.files.now (part_behind c.args.folders.now c.is_deep-deep.result c.args.place.now.text c.args.part c.args.opens.now c.args.made.now) s) c.in-Err-Need.field-0-is c.in-Err-Need.ensures.left) in (
      ap (λ os. rest_of (look_up files c.args.files.now) (hand_left c.args.folders.now c.args.place.now rest os (Holds c.args.part) c.args.made.now)) (sym kept.0)
          ∙ ap (λ m. rest_of (look_up files c.args.files.now) (hand_left c.args.folders.now c.args.place.now rest c.read_part.new.opens (Holds c.args.part) m)) (sym kept.1),
      part_waits c.args.files.now c.args.folders.now c.args.place.now rest c.read_part.new.opens c.args.part c.read_part.new.made c.in-Err-Need.want
          (subst (λ m. Stops c.args.files.now (part_behind c.args.folders.now (is_deep c.args.place.now.depth) c.args.place.now.text c.args.part c.read_part.new.opens m) (Need c.in-Err-Need.want)) (sym kept.1)
          (subst (λ os. Stops c.args.files.now (part_behind c.args.folders.now (is_deep c.args.place.now.depth) c.args.place.now.text c.args.part os c.args.made.now) (Need c.in-Err-Need.want)) (sym kept.0) stops)),
    )
