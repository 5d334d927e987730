use Rattle.std.proofs.Common.{◌≡◌, ℕ, List, Some, None, string_bytes, refl, inl, inr, ap, sym, ◌∙◌}
use Rattle.std.specs.FinMap as map
use Rattle.macro_table.specs.declared.table.Defined.TheVariants.{Clash}
use Rattle.macro_table.specs.Same.{IsSame}
use Rattle.macro_table.proofs.TableLemmas.{seen, get_seen, seen_insert}
use Rattle.macro_table.proofs.table.MacroTable.define.Goals as goal

pub returns-then-same-clause-outcome : goal.returns-then-same-clause-outcome
returns-then-same-clause-outcome c =
    let kept : map.get c.args.self.now c.args.def.name ≡ Some c.in-Some.kept.now =
    rw (← c.self.view_is, ← c.as_str.ensures) (get_seen c.as_str.result.now c.self.inside.macros.entries ∙ sym c.in-Some.ensures.value) in
    rw kept (inl (c.same.ensures.0 c.if-same.true, refl))

pub returns-in-Some-clause-outcome : goal.returns-in-Some-clause-outcome
returns-in-Some-clause-outcome c =
    let kept : map.get c.args.self.now c.args.def.name ≡ Some c.in-Some.kept.now =
    rw (← c.self.view_is, ← c.as_str.ensures) (get_seen c.as_str.result.now c.self.inside.macros.entries ∙ sym c.in-Some.ensures.value) in
    let other : ¬ IsSame c.in-Some.kept.now c.args.def = λ s. (let yes = c.same.ensures.1 s in let no = c.if-same.false in cc (yes, no)) in
    rw kept (inr (other, ap Clash c.in_ok-tok.ensures))

pub returns-in-Ok-clause-outcome : goal.returns-in-Ok-clause-outcome
returns-in-Ok-clause-outcome c =
    let none : map.get c.args.self.now c.args.def.name ≡ None =
    rw (← c.self.view_is, ← c.as_str.ensures) (get_seen c.as_str.result.now c.self.inside.macros.entries ∙ sym c.in_default.ensures.value) in
    rw none refl

pub returns-in-Ok-clause-table : goal.returns-in-Ok-clause-table
returns-in-Ok-clause-table c =
    let name : string_bytes c.in_ok-name.name ≡ c.args.def.name = c.in_ok-name.ensures.ok ∙ c.as_str-2.ensures in
    rw (← c.self.view_is)
    (seen_insert (string_bytes c.in_ok-name.name) c.self.inside.macros c.insert.new.self c.args.def c.in-Ok.ensures.updates
    ∙ ap (λ (bs : List ℕ). map.insert (seen c.self.inside.macros.entries) bs c.args.def) name)
