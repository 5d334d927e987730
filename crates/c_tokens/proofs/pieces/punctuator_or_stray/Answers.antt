-- A punctuator that begins no longer one is the longest.
use Rattle.std.proofs.Common.{◌≡◌, refl, ap, sym, ◌∙◌, slice_index}
use Rattle.c_tokens.specs.Classes.{longest_of_four, punctuator_size}
use Rattle.c_tokens.specs.Pieces.{punctuator_or_stray}
use Rattle.c_tokens.specs.Reading.{ahead}
use Rattle.c_tokens.proofs.pieces.punctuator_or_stray.Goals as goal

pub returns-then-is_lone : goal.returns-then-is_lone
unfolding punctuator_or_stray
returns-then-is_lone c =
    let cs = ahead c.args.text.now c.args.at in
    let one : punctuator_size cs ≡ 1 =
    ap (λ k. longest_of_four k (slice_index cs 1) (slice_index cs 2) (slice_index cs 3)) (sym c.look_ahead-first.ensures.code)
    ∙ c.is_lone.ensures c.if-is_lone.true (slice_index cs 1) (slice_index cs 2) (slice_index cs 3) in
    record {
      class = rw one refl;
      size = rw one refl;
      after = c.look_ahead-first.ensures.one c.requires.some;
    }
