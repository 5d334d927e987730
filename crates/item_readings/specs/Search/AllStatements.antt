-- A search for statements.
use Rattle.std.proofs.Common.{refl, ℕ, zero, suc, ◌+◌, ◌<◌, ◌≤◌, arith, length}
use Rattle.tree_data.specs.Statements.{Statement}
use Rattle.c_parser.specs.Words.{Words}
use Rattle.stmt_parser.specs.Reading.{HoldsStatement}
use Rattle.item_readings.specs.Search.Searches.{Search, Within, weight}
use Rattle.item_readings.specs.Search.StatementSearches.{Searches}
use Rattle.item_readings.specs.Search.Statements.{statement, core, item, items}
use Rattle.item_readings.specs.Search.Leads.{lead, leads}

step : (size fuel : ℕ) → Searches size fuel → Searches size (suc fuel)
step size fuel searches = record {
  statement = statement size fuel searches;
  core = core size fuel searches;
  lead = lead size fuel searches;
  leads = leads size fuel searches;
  item = item size fuel searches;
  items = items size fuel searches;
}

spent : (w r : ℕ) → w + r ≤ 0 → 0 < r → ⊥
spent w r l u = omega (arith, l, u)

start : (size : ℕ) → Searches size 0
start size = record {
  statement = λ w long a left Goal found. absurd (spent (weight size a) 4 left (omega arith));
  core = λ w long a left Goal found. absurd (spent (weight size a) 1 left (omega arith));
  lead = λ w long a left Goal found. absurd (spent (weight size a) 1 left (omega arith));
  leads = λ w long a left Goal found. absurd (spent (weight size a) 2 left (omega arith));
  item = λ w long a left Goal found. absurd (spent (weight size a) 5 left (omega arith));
  items = λ w long a left Goal found. absurd (spent (weight size a) 6 left (omega arith));
}

searches_of : (size fuel : ℕ) → Searches size fuel
searches_of size zero = start size
searches_of size (suc fuel) = step size fuel (searches_of size fuel)

pub any_statement : (w : Words) → (a : ℕ) → Search Statement (λ t e. HoldsStatement w t a e) (λ t e. Within (length w.kinds) a e)
any_statement w a = (searches_of (length w.kinds) (weight (length w.kinds) a + 4)).statement w refl a (omega arith)
