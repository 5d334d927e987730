use Rattle.std.proofs.Common.{◌≡◌, ◌∙◌, ap, sym, subst, length, slice_index_or}
use Rattle.c_parser.specs.Enumerations.{earlier}
use Rattle.c_parser.specs.Kinds.{kind_at, IsInside}
use Rattle.c_parser.specs.Scopes.{forced}
use Rattle.c_parser.proofs.Enumerated.{view_at, view_length, plain_forced, inside_as, forced_inside}
use Rattle.c_parser.proofs.scope.Kinds.at.Goals as goal

pub returns-in_default : goal.returns-in_default
returns-in_default c =
    let hidden = c.self.inside.hidden.value.items in
    let ks = c.self.inside.tokens.now in
    let from = c.self.inside.from in
    let long = view_length hidden ks from ∙ ap (λ us. length us) c.self.view_is in
    record {
      kind =
          plain_forced hidden (earlier ks c.args.at) from c.token_at-kind.result c.in_default.not-TypeName
          ∙ ap (forced hidden (earlier ks c.args.at) from) c.token_at-kind.ensures.kind
          ∙ sym (view_at hidden ks from c.args.at)
          ∙ ap (λ us. kind_at us c.args.at) c.self.view_is;
      inside = inside_as c.args.self.now ks long c.args.at c.token_at-kind.result c.token_at-kind.ensures.inside;
    }

pub returns : goal.returns
returns c =
    let hidden = c.self.inside.hidden.value.items in
    let ks = c.self.inside.tokens.now in
    let from = c.self.inside.from in
    let long = view_length hidden ks from ∙ ap (λ us. length us) c.self.view_is in
    record {
      kind =
          c.forced.ensures
          ∙ ap (λ h. forced h c.earlier.result from c.token_at-kind.result) (c.deref-2.ensures.value ∙ ap (λ v. v.items) c.deref.ensures)
          ∙ ap (λ e. forced hidden e from c.token_at-kind.result) (c.earlier.ensures ∙ ap (λ m. slice_index_or m.earlier.items c.args.at 0) c.deref-3.ensures ∙ c.self.invariant.last c.args.at)
          ∙ ap (forced hidden (earlier ks c.args.at) from) c.token_at-kind.ensures.kind
          ∙ sym (view_at hidden ks from c.args.at)
          ∙ ap (λ us. kind_at us c.args.at) c.self.view_is;
      inside =
          subst
          (IsInside c.args.self.now c.args.at)
          (sym c.forced.ensures)
          (forced_inside _ c.earlier.result from c.args.self.now c.args.at c.token_at-kind.result
          (inside_as c.args.self.now ks long c.args.at c.token_at-kind.result c.token_at-kind.ensures.inside));
    }
