use Rattle.std.proofs.Common.{◌++◌, [], string_bytes, refl, ap, ◌∙◌}
use Rattle.gen_project.specs.Script.{prototype, prototypes}
use Rattle.gen_project.proofs.Loops.{begins, turns, ends}
use Rattle.gen_project.proofs.texts.header.Goals as goal

pub functions-init : goal.functions-init
functions-init c = begins prototypes [] (string_bytes c.new-text.result) c.args.number c.new-text.ensures.bytes

pub functions-preserved : goal.functions-preserved
functions-preserved c = turns prototypes (prototype c.functions.k) [] (string_bytes c.functions.text) _ c.args.number c.functions.k (λ ks. refl) c.functions-test.true
    (c.in_ok-push_str.ensures.bytes ∙ ap (λ t. string_bytes c.functions.text ++ t) (c.as_str.ensures.value ∙ c.in_ok-line.ensures)) c.functions.invariant

pub returns : goal.returns
returns c = ends prototypes [] (string_bytes c.functions.text) c.args.number c.functions.k refl c.functions-test.false c.functions.invariant
