-- Binary operators of all levels: the operator behind what was read tells its level.
use Rattle.std.proofs.Common.{◌≡◌, subst, ℕ, zero, suc, ◌+◌, ◌-◌, ◌<◌, ◌≤◌, List, arith}
use Rattle.tree_data.specs.Trees.{Tree, Binary_of}
use Rattle.c_parser.specs.declared.answers.Stop.{Stop}
use Rattle.c_parser.specs.declared.kinds.Kind.{Kind}
use Rattle.c_parser.specs.Kinds.{level_at}
use Rattle.c_parser.specs.Levels.{IsBinary}
use Rattle.c_parser.specs.Reading.{Found}
use Rattle.c_parser.proofs.Parsing.{Fails, first_fails}
use Rattle.c_parser.proofs.Views.{lowered, binary_view}

-- what was read is of this level, or of one that binds more
pub record Climb (ks : List Kind) (n at : ℕ) (t : Tree) (end : ℕ) : Type 0 where
  pub level : ℕ
  pub found : Found ks level at t end
  pub low : n ≤ level
  pub high : level ≤ 14

pub climb_starts : (ks : List Kind) → (n at : ℕ) → (t : Tree) → (end : ℕ) → n ≤ 14 → Found ks 14 at t end → Climb ks n at t end
climb_starts ks n at t end le f = record { level = 14; found = f; low = le; high = omega arith }

pub climb_turns : (ks : List Kind) → (n at : ℕ) → (t : Tree) → (end l : ℕ) → n ≤ l → l ≤ 13 → Found ks l at t end → Climb ks n at t end
climb_turns ks n at t end l le most f = record { level = l; found = f; low = le; high = omega arith }

pub climb_ends : (ks : List Kind) → (n at : ℕ) → (t : Tree) → (end : ℕ) → Climb ks n at t end → level_at ks end < n → Found ks n at t end
climb_ends ks n at t end c stops =
    record {
      reads = lowered ks n c.level t at end c.low c.found.reads;
      stops = stops;
      forth = c.found.forth;
      inside = c.found.inside;
    }

-- the operator behind it binds less than what was read
pub climb_own : (ks : List Kind) → (n at : ℕ) → (t : Tree) → (end l : ℕ) → Climb ks n at t end → l ≡ level_at ks end → Found ks (l + 1) at t end
climb_own ks n at t end l c e =
    let more : level_at ks end < c.level = c.found.stops in
    let le : l + 1 ≤ c.level = omega (arith, e) in
    record {
      reads = lowered ks (l + 1) c.level t at end le c.found.reads;
      stops = omega (arith, e);
      forth = c.found.forth;
      inside = c.found.inside;
    }

pub own_low : (ks : List Kind) → (n at : ℕ) → (t : Tree) → (end l : ℕ) → Climb ks n at t end → l ≡ level_at ks end → l ≤ 13
own_low ks n at t end l c e =
    let more : level_at ks end < c.level = c.found.stops in
    let most : c.level ≤ 14 = c.high in
    omega (arith, e)

pub binary_level : (n : ℕ) → 4 ≤ n → n ≤ 13 → IsBinary n
binary_level n low high = (omega arith, high, λ e. omega (arith, e), λ e. omega (arith, e))

-- the level of the comma
pub comma_level : IsBinary 1
comma_level = (omega arith, omega arith, λ e. omega (arith, e), λ e. omega (arith, e))

pub own_binary : (ks : List Kind) → (n at : ℕ) → (t : Tree) → (end l : ℕ) → 4 ≤ n → n ≤ l → Climb ks n at t end → l ≡ level_at ks end → IsBinary l
own_binary ks n at t end l low le c e = binary_level l (omega arith) (own_low ks n at t end l c e)

-- an expression of this level begins with one of each level that binds more
lifted_by : (ks : List Kind) → (d n a : ℕ) → (e : Stop) → 4 ≤ n → n + d ≤ 14 → Fails ks (n + d) a e → Fails ks n a e
lifted_by ks zero n a e low high f =
    let same : n + 0 ≡ n = omega arith in
    subst (λ x. Fails ks x a e) same f
lifted_by ks (suc d) n a e low high f =
    let level = binary_level n low (omega arith) in
    let same : n + suc d ≡ (n + 1) + d = omega arith in
    first_fails
    ks
    n
    a
    Binary_of
    e
    (λ t b h. binary_view ks n level t a b h)
    (lifted_by ks d (n + 1) a e (omega arith) (omega arith) (subst (λ x. Fails ks x a e) same f))

pub lifted : (ks : List Kind) → (n m a : ℕ) → (e : Stop) → 4 ≤ n → n ≤ m → m ≤ 14 → Fails ks m a e → Fails ks n a e
lifted ks n m a e low le high f =
    let same : m ≡ n + (m - n) = omega arith in
    lifted_by ks (m - n) n a e low (omega arith) (subst (λ x. Fails ks x a e) same f)
