use Rattle.std.proofs.Common.{rules, ◌<◌, ◌-◌, ◌∷◌, ap, refl, sym}
use Rattle.std.specs.Vec.{vec_len}
use Rattle.stmt_rules.specs.Switches.{after_default}
use Rattle.stmt_rules.proofs.TopLemmas.{changed}
use Rattle.stmt_rules.proofs.switches.Switches.default_label.Goals as goal

pub returns-clause-after : goal.returns-clause-after
returns-clause-after c =
    let v = c.self.inside.entered in
    let some : 0 < vec_len v = search rules in
    changed after_default v.items c.args.self.now c.in-Some.entered.now c.mark_default.new.self (vec_len v - 1) (vec_len v) v.ok.0 some refl c.self.view_is c.in-Some.ensures.value
    (λ rest. ap (λ s. s ∷ rest) (sym c.mark_default.ensures.noted))
