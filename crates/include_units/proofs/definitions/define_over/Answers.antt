use Rattle.std.proofs.Common.{◌≡◌, ap, sym, ◌∙◌, subst, OnOk}
use Rattle.std.specs.FinMap as map
use Rattle.macro_table.specs.declared.table.Defined.TheVariants.{Same, Clash}
use Rattle.macro_table.specs.Defining.{IsOutcome, table_after}
use Rattle.include_units.specs.Made.{with_fault}
use Rattle.include_units.specs.Definitions.{define_over}
use Rattle.include_units.proofs.SameLemmas.{define_same, define_clash}
use Rattle.include_units.proofs.definitions.define_over.Goals as goal

pub returns-in-Ok-Same : goal.returns-in-Ok-Same
returns-in-Ok-Same c =
    let h : IsOutcome (map.get c.args.made.now.table c.args.def.name) c.args.def Same =
    subst (λ d. IsOutcome (map.get c.args.made.now.table c.args.def.name) c.args.def d) c.in-Ok-Same.field-0-is c.in-Ok-Same.ensures.outcome in
    let g : IsOutcome (map.get c.args.made.now.table c.args.name.now.spelling) c.args.def Same =
    subst (λ name. IsOutcome (map.get c.args.made.now.table name) c.args.def Same) c.requires h in
    let t : c.define.new.self ≡ c.args.made.now.table =
    c.in-Ok-Same.ensures.table ∙ ap (λ d. table_after d c.args.made.now.table c.args.def) c.in-Ok-Same.field-0-is in
    ap (λ t. record c.args.made.now { table = t }) t
    ∙ sym (define_same (map.get c.args.made.now.table c.args.name.now.spelling) c.args.name.now c.args.def c.args.made.now g)

pub returns-in-Ok-Clash : goal.returns-in-Ok-Clash
returns-in-Ok-Clash c =
    let h : IsOutcome (map.get c.args.made.now.table c.args.def.name) c.args.def (Clash c.in-Ok-Clash.field-0-0) =
    subst (λ d. IsOutcome (map.get c.args.made.now.table c.args.def.name) c.args.def d) c.in-Ok-Clash.field-0-is c.in-Ok-Clash.ensures.outcome in
    let g : IsOutcome (map.get c.args.made.now.table c.args.name.now.spelling) c.args.def (Clash c.in-Ok-Clash.field-0-0) =
    subst (λ name. IsOutcome (map.get c.args.made.now.table name) c.args.def (Clash c.in-Ok-Clash.field-0-0)) c.requires h in
    let t : c.define.new.self ≡ c.args.made.now.table =
    c.in-Ok-Clash.ensures.table ∙ ap (λ d. table_after d c.args.made.now.table c.args.def) c.in-Ok-Clash.field-0-is in
    let e : with_fault 201 c.args.name.now.site c.as_str.result.now (record c.args.made.now { table = c.define.new.self }) ≡ define_over (map.get c.args.made.now.table c.args.name.now.spelling) c.args.name.now c.args.def c.args.made.now =
    ap (λ text. with_fault 201 c.args.name.now.site text (record c.args.made.now { table = c.define.new.self })) c.as_str.ensures
    ∙ ap (λ t. with_fault 201 c.args.name.now.site c.args.name.now.spelling (record c.args.made.now { table = t })) t
    ∙ sym (define_clash (map.get c.args.made.now.table c.args.name.now.spelling) c.args.name.now c.args.def c.args.made.now c.in-Ok-Clash.field-0-0 g) in
    subst (λ m. OnOk c.add_fault.result (c.add_fault.new.self ≡ m)) e c.add_fault.ensures
