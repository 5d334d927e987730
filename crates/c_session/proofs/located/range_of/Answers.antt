use Rattle.std.proofs.Common.{ap, ◌∙◌}
use Rattle.c_session.proofs.located.range_of.Goals as goal

pub pos-requires : goal.pos-requires
pos-requires c = record {
  table = ap (λ p. p.lines) (c.as_places-places.ensures ∙ c.requires.lexed.places);
  short = c.requires.short;
  within = c.place_of-start.ensures.start;
}

pub pos-requires-2 : goal.pos-requires-2
pos-requires-2 c = record {
  table = ap (λ p. p.lines) (c.as_places-places.ensures ∙ c.requires.lexed.places);
  short = c.requires.short;
  within = c.place_of-start.ensures.end;
}
