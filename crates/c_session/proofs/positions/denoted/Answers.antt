use Rattle.std.proofs.Common.{length, ap, sym, subst, ◌∙◌}
use Rattle.c_tokens.specs.Lexed.{lexed}
use Rattle.unit_index.specs.Under.{AreApart}
use Rattle.c_session.proofs.Orders.{apart, few}
use Rattle.c_session.proofs.positions.denoted.Goals as goal

pub offset-offset-requires : goal.offset-offset-requires
offset-offset-requires c = record {
  table = ap (λ p. p.lines) (c.as_places-places.ensures ∙ c.requires.lexed.places);
  short = c.requires.short;
}

pub token_under-requires : goal.token_under-requires
token_under-requires c =
    let same = c.as_slice-2.ensures ∙ ap (λ p. p.places) (c.as_places-places.ensures ∙ c.requires.lexed.places) in
    record {
      apart = subst (AreApart 0) (sym same) (apart c.args.text.now 0 (length c.args.text.now) (lexed c.args.text.now).places c.requires.lexed.place_order);
      few = few c.args.text.now (lexed c.args.text.now).places c.as_slice-2.result.now same c.requires.lexed.place_order c.requires.short;
    }
