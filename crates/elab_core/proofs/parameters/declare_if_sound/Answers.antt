use Rattle.std.proofs.Common.{rules, ◌≡◌, sym, ap, subst, Ok}
use Rattle.std.specs.Prelude.{OnOk}
use Rattle.decl_rules.specs.Declarations.{declared}
use Rattle.elab_state.specs.Seen.{context_of}
use Rattle.elab_core.specs.Parameters.{refused_entity}
use Rattle.elab_core.proofs.parameters.declare_if_sound.Goals as goal

pub returns-in-Ok : goal.returns-in-Ok
returns-in-Ok c =
    let is : declared c.args.made.now.names c.args.decl.now c.args.made.now.tags ≡ Ok c.in-Ok.entity = search rules in
    subst (λ x. OnOk c.declare_by.result (c.declare_by.new.made ≡ x))
    (sym (ap (λ r. refused_entity (context_of c.args.around.now) c.args.at c.args.role r c.args.made.now) is))
    c.declare_by.ensures
