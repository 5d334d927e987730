use Rattle.std.proofs.Common.{rules, ◌≡◌, ◌<◌, ◌-◌, length, get_or, Some, ap, subst, sym, ◌∙◌}
use Rattle.std.specs.Prelude.{reverse}
use Rattle.scope_tables.specs.Marks.{cut_at, AreMarks}
use Rattle.scope_tables.specs.Places.{newest}
use Rattle.scope_tables.specs.Scopes.{before, declared_in}
use Rattle.scope_tables.specs.declared.bindings.Binding.{Binding}
use Rattle.scope_tables.specs.declared.scopes.Mark.{Mark}
use Rattle.scope_tables.proofs.MarkLemmas.{declares_old, declares_new}
use Rattle.scope_tables.proofs.NewestLemmas.{newest_below}
use Rattle.scope_tables.proofs.scopes.Scopes.declare.Goals as goal

pub replace-requires : goal.replace-requires
replace-requires c = newest_below c.args.space c.as_str.result.now c.self.inside.table c.in-Some-here.place c.in-Some-here.ensures.found.0

pub invariant_of-self : goal.invariant_of-self
invariant_of-self c =
    let b : Binding = record { space = c.args.space; name = c.args.name; entity = c.args.entity } in
    let marks = c.self.inside.marks.items in
    let m : Mark = c.in-Some.mark.now in
    let some : length marks - 1 < length marks = search rules in
    let last : m ≡ get_or marks (length marks - 1) m = search rules in
    let at : newest b.space b.name c.self.inside.table ≡ Some c.in-Some-here.place =
    ap (λ n. newest b.space n c.self.inside.table) (sym c.as_str.ensures) ∙ c.in-Some-here.ensures.found.0 in
    let d = declares_old b marks m c.self.inside.table c.in-Some-here.place some last c.self.invariant at c.in-Some-here.ensures.found.1 in
    subst (AreMarks (reverse marks)) (sym c.replace.ensures.set) d.marks

pub returns-in-Some-here-clause-old : goal.returns-in-Some-here-clause-old
returns-in-Some-here-clause-old c =
    let b : Binding = record { space = c.args.space; name = c.args.name; entity = c.args.entity } in
    let marks = c.self.inside.marks.items in
    let m : Mark = c.in-Some.mark.now in
    let some : length marks - 1 < length marks = search rules in
    let last : m ≡ get_or marks (length marks - 1) m = search rules in
    let at : newest b.space b.name c.self.inside.table ≡ Some c.in-Some-here.place =
    ap (λ n. newest b.space n c.self.inside.table) (sym c.as_str.ensures) ∙ c.in-Some-here.ensures.found.0 in
    let d = declares_old b marks m c.self.inside.table c.in-Some-here.place some last c.self.invariant at c.in-Some-here.ensures.found.1 in
    c.replace.ensures.before ∙ d.before ∙ ap (before b) c.self.view_is

pub returns-in-Some-here-clause-declared : goal.returns-in-Some-here-clause-declared
returns-in-Some-here-clause-declared c =
    let b : Binding = record { space = c.args.space; name = c.args.name; entity = c.args.entity } in
    let marks = c.self.inside.marks.items in
    let m : Mark = c.in-Some.mark.now in
    let some : length marks - 1 < length marks = search rules in
    let last : m ≡ get_or marks (length marks - 1) m = search rules in
    let at : newest b.space b.name c.self.inside.table ≡ Some c.in-Some-here.place =
    ap (λ n. newest b.space n c.self.inside.table) (sym c.as_str.ensures) ∙ c.in-Some-here.ensures.found.0 in
    let d = declares_old b marks m c.self.inside.table c.in-Some-here.place some last c.self.invariant at c.in-Some-here.ensures.found.1 in
    ap (cut_at (reverse marks)) c.replace.ensures.set ∙ d.scopes ∙ ap (declared_in b) c.self.view_is

pub invariant_of-self-2 : goal.invariant_of-self-2
invariant_of-self-2 c =
    let b : Binding = record { space = c.args.space; name = c.args.name; entity = c.args.entity } in
    let marks = c.self.inside.marks.items in
    let m : Mark = c.in-Some.mark.now in
    let some : length marks - 1 < length marks = search rules in
    let last : m ≡ get_or marks (length marks - 1) m = search rules in
    let d = declares_new b marks m c.self.inside.table some last c.self.invariant
    (λ i h. c.in_default-here.ensures.missing i (ap (λ n. newest b.space n c.self.inside.table) c.as_str.ensures ∙ h)) in
    subst (AreMarks (reverse marks)) (sym c.in_ok-push.ensures.pushed) d.marks

pub returns-clause-old : goal.returns-clause-old
returns-clause-old c =
    let b : Binding = record { space = c.args.space; name = c.args.name; entity = c.args.entity } in
    let marks = c.self.inside.marks.items in
    let m : Mark = c.in-Some.mark.now in
    let some : length marks - 1 < length marks = search rules in
    let last : m ≡ get_or marks (length marks - 1) m = search rules in
    let d = declares_new b marks m c.self.inside.table some last c.self.invariant
    (λ i h. c.in_default-here.ensures.missing i (ap (λ n. newest b.space n c.self.inside.table) c.as_str.ensures ∙ h)) in
    d.before ∙ ap (before b) c.self.view_is

pub returns-clause-declared : goal.returns-clause-declared
returns-clause-declared c =
    let b : Binding = record { space = c.args.space; name = c.args.name; entity = c.args.entity } in
    let marks = c.self.inside.marks.items in
    let m : Mark = c.in-Some.mark.now in
    let some : length marks - 1 < length marks = search rules in
    let last : m ≡ get_or marks (length marks - 1) m = search rules in
    let d = declares_new b marks m c.self.inside.table some last c.self.invariant
    (λ i h. c.in_default-here.ensures.missing i (ap (λ n. newest b.space n c.self.inside.table) c.as_str.ensures ∙ h)) in
    ap (cut_at (reverse marks)) c.in_ok-push.ensures.pushed ∙ d.scopes ∙ ap (declared_in b) c.self.view_is
