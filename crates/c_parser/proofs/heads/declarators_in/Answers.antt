use Rattle.std.proofs.Common.{◌<◌, ◌∙◌, sym, ap, subst, length, ◌≡◌, [], false, ◌+◌}
use Rattle.tree_data.specs.Heads.{declared_of}
use Rattle.c_parser.specs.Heads.{Leading, is_alone, past_all}
use Rattle.c_parser.specs.HeadsFound.{FoundDeclared}
use Rattle.c_parser.specs.Kinds.{kind_at}
use Rattle.c_parser.proofs.HeadWords.{all_kinds}
use Rattle.c_parser.proofs.HeadWholes.{OnlyDeclared, none_same, none_found, declared_fails, semicolon_same, semicolon_found, brace_same, brace_found, several_fail, unended_fail}
use Rattle.c_parser.proofs.heads.declarators_in.Goals as goal

pub returns-in-Semicolon : goal.returns-in-Semicolon
returns-in-Semicolon c =
    let s : Leading = record { typed = c.args.leading.typed; typedef = c.args.leading.typedef } in
    let here = sym c.in-Semicolon.ensures.kind in
    let none : [] ≡ declared_of c.new.result.items = ap declared_of (sym c.new.ensures.items) in
    record {
      found =
          subst
          (λ ds. FoundDeclared c.args.scope c.args.origin s c.args.at ds false (c.args.at + 1))
          none
          (none_found c.args.origin _ s _ here c.in-Semicolon.ensures.inside);
      past = ap (past_all c.args.scope s) none;
      only = subst (λ ds. OnlyDeclared c.args.origin c.args.scope s c.args.at ds false (c.args.at + 1)) none (none_same c.args.origin _ s _ here);
    }

pub returns-in-Err : goal.returns-in-Err
returns-in-Err c = record {
  found = tt;
  past = tt;
  only = declared_fails c.args.origin _ _ _ (λ k. c.in_default.not-Semicolon (c.at.ensures.kind ∙ k)) _ c.in-Err.ensures.only;
}

pub returns-in-Semicolon-at : goal.returns-in-Semicolon-at
returns-in-Semicolon-at c =
    let s : Leading = record { typed = c.args.leading.typed; typedef = c.args.leading.typedef } in
    let same = all_kinds c.args.scope s _ (declared_of c.in-Ok.found.0.items) c.in-Ok.ensures.past in
    let here = ap (λ ks. kind_at ks c.in-Ok.found.2) (sym same) ∙ sym c.in-Semicolon-at.ensures.kind in
    record {
      found = semicolon_found c.args.origin _ s _ _ _ c.in-Ok.ensures.found here (subst (λ ks. c.in-Ok.found.2 < length ks) same c.in-Semicolon-at.ensures.inside);
      past = c.in-Ok.ensures.past;
      only = semicolon_same c.args.origin _ s _ (λ k. c.in_default.not-Semicolon (c.at.ensures.kind ∙ k)) _ _ c.in-Ok.ensures.only here;
    }

pub returns-in_default-at-2 : goal.returns-in_default-at-2
returns-in_default-at-2 c =
    let s : Leading = record { typed = c.args.leading.typed; typedef = c.args.leading.typedef } in
    let same = all_kinds c.args.scope s _ (declared_of c.in-Ok.found.0.items) c.in-Ok.ensures.past in
    record {
      found = tt;
      past = tt;
      only =
          unended_fail
          c.args.origin
          _
          s
          _
          (λ k. c.in_default.not-Semicolon (c.at.ensures.kind ∙ k))
          _
          _
          c.in-Ok.ensures.only
          (λ k. c.in_default-at.not-Semicolon (c.at-2.ensures.kind ∙ ap (λ ks. kind_at ks c.in-Ok.found.2) same ∙ k))
          (λ k. c.in_default-at-2.not-OpenBrace (c.at-3.ensures.kind ∙ ap (λ ks. kind_at ks c.in-Ok.found.2) same ∙ k))
          c.args.at;
    }

pub returns-then-not-is_alone : goal.returns-then-not-is_alone
returns-then-not-is_alone c =
    let s : Leading = record { typed = c.args.leading.typed; typedef = c.args.leading.typedef } in
    let same = all_kinds c.args.scope s _ (declared_of c.in-Ok.found.0.items) c.in-Ok.ensures.past in
    let here = ap (λ ks. kind_at ks c.in-Ok.found.2) (sym same) ∙ sym c.in-OpenBrace.ensures.kind in
    let several = ap (λ ds. is_alone (declared_of ds)) (sym c.as_slice.ensures.value) ∙ sym c.is_alone.ensures ∙ c.if-not-is_alone.true in
    record {
      found = tt;
      past = tt;
      only =
          several_fail
          c.args.origin
          _
          s
          _
          (λ k. c.in_default.not-Semicolon (c.at.ensures.kind ∙ k))
          _
          _
          c.in-Ok.ensures.only
          here
          several
          c.args.at;
    }

pub returns : goal.returns
returns c =
    let s : Leading = record { typed = c.args.leading.typed; typedef = c.args.leading.typedef } in
    let same = all_kinds c.args.scope s _ (declared_of c.in-Ok.found.0.items) c.in-Ok.ensures.past in
    let here = ap (λ ks. kind_at ks c.in-Ok.found.2) (sym same) ∙ sym c.in-OpenBrace.ensures.kind in
    let alone = ap (λ ds. is_alone (declared_of ds)) (sym c.as_slice.ensures.value) ∙ sym c.is_alone.ensures ∙ c.if-not-is_alone.false in
    record {
      found = brace_found c.args.origin _ s _ _ _ c.in-Ok.ensures.found here alone (subst (λ ks. c.in-Ok.found.2 < length ks) same c.in-OpenBrace.ensures.inside);
      past = c.in-Ok.ensures.past;
      only = brace_same c.args.origin _ s _ (λ k. c.in_default.not-Semicolon (c.at.ensures.kind ∙ k)) _ _ c.in-Ok.ensures.only here;
    }
