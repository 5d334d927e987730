use Rattle.std.proofs.Common.{rules, ◌≡◌, refl, sym, ap, ◌∙◌, true, false, None, Some, [], ◌∷◌}
use Rattle.asking.specs.Asking.{Gives}
use Rattle.asking.specs.LookUps.{Needs, look_up}
use Rattle.include_units.specs.declared.reading.Hand.TheVariants.{Seeks}
use Rattle.include_units.specs.Files.{files, Exists}
use Rattle.include_units.specs.Left.{hand_left}
use Rattle.include_units.specs.Rests.{rest_of}
use Rattle.include_units.proofs.Moving.{held_there, held_nowhere, search_leads, search_goes, search_waits}
use Rattle.include_units.proofs.reading.search_on.Goals as goal

pub returns-in_ok-lead-in-Some-true : goal.returns-in_ok-lead-in-Some-true
returns-in_ok-lead-in-Some-true c = λ folders place rest opens.
    let h : look_up files c.args.files.now (Exists c.in-Some.path.now) ≡ Some true = search rules in
    search_leads c.args.files.now folders place rest opens c.args.search (Some c.in_ok-path-in-Some-true.path) c.in_ok-lead-in-Some-true.lead c.hand_by.result c.args.made.now c.lead.new.made
    (held_there c.args.files.now c.args.search c.in-Some.path.now (sym c.in-Some.ensures.path) h ∙ ap (λ p. Gives (Some p)) (sym c.in_ok-path-in-Some-true.ensures))
    c.in_ok-lead-in-Some-true.ensures
    (c.hand_by.ensures folders place rest opens c.lead.new.made)

pub returns-in-Some-false : goal.returns-in-Some-false
returns-in-Some-false c = λ folders place rest opens.
    let h : look_up files c.args.files.now (Exists c.in-Some.path.now) ≡ Some false = search rules in
    search_goes c.args.files.now folders place rest opens c.args.search c.in-Some.path.now c.args.made.now (sym c.in-Some.ensures.path) h
    ∙ ap (λ s. rest_of (look_up files c.args.files.now) (hand_left folders place rest opens (Seeks s) c.args.made.now)) (sym c.behind.ensures)

pub returns-in_ok-path-in-None-held_at : goal.returns-in_ok-path-in-None-held_at
returns-in_ok-path-in-None-held_at c = λ folders place rest opens.
    let h : look_up files c.args.files.now (Exists c.in-Some.path.now) ≡ None = search rules in (
      refl,
      search_waits c.args.files.now folders place rest opens c.args.search c.in-Some.path.now c.args.made.now (sym c.in-Some.ensures.path) h
          ∙ ap (λ p. Needs (Exists p ∷ [])) (sym c.in_ok-path-in-None-held_at.ensures),
    )

pub returns-in_ok-lead-in-None : goal.returns-in_ok-lead-in-None
returns-in_ok-lead-in-None c = λ folders place rest opens.
    search_leads c.args.files.now folders place rest opens c.args.search None c.in_ok-lead-in-None.lead c.hand_by-in-None.result c.args.made.now c.lead-in-None.new.made
    (held_nowhere c.args.files.now c.args.search (sym c.in-None.ensures.path))
    c.in_ok-lead-in-None.ensures
    (c.hand_by-in-None.ensures folders place rest opens c.lead-in-None.new.made)
