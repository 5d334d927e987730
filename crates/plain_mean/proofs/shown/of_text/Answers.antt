use Rattle.std.proofs.Common.{length, map, ◌++◌, ap, subst, sym, ◌∙◌}
use Rattle.plain_mean.specs.Shown.{in_order, placed, open_comments}
use Rattle.plain_mean.specs.Within.{AreWithin}
use Rattle.plain_mean.proofs.Within.{text_within}
use Rattle.plain_mean.proofs.shown.of_text.Goals as goal

pub returns-clause-within : goal.returns-clause-within
returns-clause-within c =
    subst (AreWithin (length c.args.text.now))
    (sym (c.in_ok-list.ensures ∙ ap in_order (c.in_ok-add_open_comments.ensures
    ∙ (λ i. (c.in_ok-all.ensures ∙ ap (λ ps. map (placed ps) c.args.faults.now) (c.as_slice.ensures ∙ ap (λ p. p.places) (c.as_places-places.ensures ∙ c.requires.places))) i
    ++ open_comments c.args.read ((c.as_slice-2.ensures ∙ ap (λ p. p.faults) (c.as_places-places.ensures ∙ c.requires.places)) i)))))
    (text_within c.args.text.now c.args.faults.now c.args.read c.requires.place_order c.requires.fault_order)
