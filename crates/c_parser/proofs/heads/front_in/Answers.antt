use Rattle.std.proofs.Common.{◌∙◌, sym, ap, subst, length, ◌==◌}
use Rattle.tree_data.specs.Seen.{specs_of, specifiers_of}
use Rattle.tree_data.specs.Trees.{specifyings, No_specifiers}
use Rattle.c_parser.specs.Heads.{leading_of, defines}
use Rattle.c_parser.specs.HeadsFound.{FoundFront}
use Rattle.c_parser.proofs.HeadWords.{leading_from}
use Rattle.c_parser.proofs.HeadWholes.{OnlyFront, FailsFront, front_fails, front_none, front_found, front_same, leading_is}
use Rattle.c_parser.specs.declared.answers.Stop.TheVariants as stop
use Rattle.c_parser.proofs.heads.front_in.Goals as goal

pub returns-in-Err-clause-only : goal.returns-in-Err-clause-only
returns-in-Err-clause-only c =
    subst (λ ks. FailsFront ks c.args.at c.in-Err.stop) c.in-Ok.ensures.shown (front_fails _ _ _ c.in-Err.ensures.only)

pub returns-then-is_empty-clause-only : goal.returns-then-is_empty-clause-only
returns-then-is_empty-clause-only c =
    subst
    (λ ks. FailsFront ks c.args.at (stop.Syntax 0))
    c.in-Ok.ensures.shown
    (front_none
    _
    _
    _
    c.in-Ok-specifiers.found.0.items
    (ap (λ xs. length xs == 0) (sym c.as_slice.ensures.value) ∙ sym c.if-is_empty.ensures)
    c.in-Ok-specifiers.ensures.only
    0)

pub returns : goal.returns
returns c =
    let xs = c.in-Ok-specifiers.found.0.items in
    let some = ap (λ ys. length ys == 0) (sym c.as_slice.ensures.value) ∙ sym c.if-is_empty.ensures in
    let typedef =
    c.defines-typedef.ensures ∙ ap (λ ys. defines c.in-Ok.kinds (specifyings (specifiers_of ys) No_specifiers)) c.as_slice-2.ensures.value in
    record {
      found =
          subst
          (λ ks. FoundFront ks c.args.at (specs_of c.new.result) c.in-Ok-specifiers.found.2)
          c.in-Ok.ensures.shown
          (subst
          (λ ss. FoundFront c.in-Ok.kinds c.args.at ss c.in-Ok-specifiers.found.2)
          (sym c.new.ensures)
          (front_found _ _ _ xs some c.in-Ok-specifiers.ensures.found));
      told =
          leading_is _ _ _ _ c.in-Ok-specifiers.ensures.told typedef
          ∙ ap (leading_of c.in-Ok.kinds) (sym c.new.ensures)
          ∙ ap (λ ks. leading_of ks (specs_of c.new.result)) c.in-Ok.ensures.shown
          ∙ leading_from c.args.scope.now c.args.at (specs_of c.new.result);
      only =
          subst
          (λ ks. OnlyFront ks c.args.at (specs_of c.new.result) c.in-Ok-specifiers.found.2)
          c.in-Ok.ensures.shown
          (subst
          (λ ss. OnlyFront c.in-Ok.kinds c.args.at ss c.in-Ok-specifiers.found.2)
          (sym c.new.ensures)
          (front_same _ _ _ _ c.in-Ok-specifiers.ensures.only));
    }
