-- An `#include` that is looked for, and what is left of it.
use Rattle.std.specs.Prelude.{ℕ, ◌+◌, List, drop}
use Rattle.tok_data.specs.declared.sources.TokId.{TokId}
use Rattle.asking.specs.Asking.{Gives, and_then}
use Rattle.include_units.specs.declared.inclusion.Lead.TheVariants.{On}
use Rattle.include_units.specs.declared.inclusion.Search.{Search}
use Rattle.include_units.specs.declared.inclusion.Next.{Next}
use Rattle.include_units.specs.declared.inclusion.Next.TheVariants.{Onward, Seeks}
use Rattle.include_units.specs.Files.{FromFiles}
use Rattle.include_units.specs.Texts.{Source}
use Rattle.include_units.specs.Made.{Made}
use Rattle.include_units.specs.Inclusion.{Name, Led, led, candidates, first_held, lead_to}

abbrev pub begun : List (List ℕ) → Source → TokId → List ℕ → Name → Search
begun folders source by whole name = record {
  by = by;
  whole = whole;
  text = name.text;
  paths = candidates folders source name;
  at = 0;
}

abbrev pub behind : Search → Search
behind s = record s { at = s.at + 1 }

abbrev pub search_left : Search → Made → FromFiles Led
search_left s m = and_then (first_held (drop s.at s.paths)) (λ found. Gives (lead_to s.by s.whole s.text found m))

abbrev pub next_left : Next → Made → FromFiles Led
next_left Onward m = Gives (led On m)
next_left (Seeks s) m = search_left s m
