-- What a look at a record says of its key.
use Rattle.std.proofs.Common.{◌≡◌, ℕ, false, ap, ◌∙◌, Some, None}
use Rattle.std.specs.Option.{option_map_or}
use Rattle.query_core.specs.Queries.{Queries}
use Rattle.query_core.specs.Graph.{Held, at, node_of, record_of, is_current, is_verified}
use Rattle.query_core.specs.Node.{Node}

module _ {K V : Type 0} where
  pub record_is : (q : Queries K V) (g : Held K V) (k : K) (i : ℕ) (r : Node K V) → node_of q g k ≡ Some i → at g i ≡ Some r → record_of q g k ≡ Some r
  record_is q g k i r n e = ap (λ o. option_map_or (at g) o None) n ∙ e

  pub verified_is : (q : Queries K V) (g : Held K V) (k : K) (i : ℕ) (r : Node K V) → node_of q g k ≡ Some i → at g i ≡ Some r → is_verified q g k ≡ is_current q g r
  verified_is q g k i r n e = ap (λ o. option_map_or (is_current q g) o false) (record_is q g k i r n e)

  pub record_none : (q : Queries K V) (g : Held K V) (k : K) → node_of q g k ≡ None → record_of q g k ≡ None
  record_none q g k n = ap (λ o. option_map_or (at g) o None) n
