use Rattle.std.proofs.Common.{rules, ◌≡◌, sym, ap, ◌∙◌, subst, Ok}
use Rattle.std.specs.Prelude.{IfOk}
use Rattle.decl_rules.specs.Declarations.{declared}
use Rattle.elab_state.specs.Seen.{context_of}
use Rattle.elab_core.specs.Declarators.{by_answer}
use Rattle.elab_core.proofs.declarators.declare_as.Goals as goal

pub returns-in-Ok : goal.returns-in-Ok
returns-in-Ok c =
    let is : declared c.args.made.now.names c.args.decl.now c.args.made.now.tags ≡ Ok c.in-Ok.entity = search rules in
    subst (λ x. IfOk c.accept.result (λ e. (e, c.accept.new.made) ≡ x))
    (sym (ap (λ r. by_answer (context_of c.args.around.now) c.args.places c.args.at c.args.role c.args.decl.now r c.args.made.now) is))
    c.accept.ensures
