-- What is due after an input was set, or the next revision begun, was due before.
use Rattle.std.proofs.Common.{◌≡◌, ℕ, true, false, cond, List, refl, ap, sym, ◌∙◌, subst, inl, inr, Some, None, arith}
use Rattle.std.proofs.lemmas.Bool.{cases_eq}
use Rattle.std.specs.Option.{option_map_or}
use Rattle.query_core.specs.Lists.{Has}
use Rattle.query_core.specs.Queries.{Queries, AreLawful}
use Rattle.query_core.specs.Graph.{Held, at, node_of, record_of}
use Rattle.query_core.specs.Soundness.{IsSound}
use Rattle.query_core.specs.Changes.{SetsInput, IsStamped, Moves}
use Rattle.query_core.specs.Due.{HasChangedRead, IsDue, WasDue}
use Rattle.query_core.specs.Node.{Node}
use Rattle.query_core.proofs.Calls.{other_record}
use Rattle.query_core.proofs.Puts.{same_key}
use Rattle.query_core.proofs.Reading.{record_is}

module _ {K V : Type 0} where
  -- the node of a record that a key has
  pub record_node : (q : Queries K V) (g : Held K V) (x : K) (r : Node K V) → record_of q g x ≡ Some r → (i : ℕ) × ((node_of q g x ≡ Some i) × (at g i ≡ Some r))
  record_node q g x r e =
      elim (node_of q g x) as (λ o. node_of q g x ≡ o → (i : ℕ) × ((node_of q g x ≡ Some i) × (at g i ≡ Some r))) [
        | None ↦ (λ n. absurd (let none : record_of q g x ≡ None = ap (λ o. option_map_or (at g) o None) n in let bad : ⊥ = cc in bad))
        | Some i ↦ (λ n. (i, (n, sym (ap (λ o. option_map_or (at g) o None) n) ∙ e)))
      ] refl

  module _ (q : Queries K V) (laws : AreLawful q) (old new : Held K V) (k : K) (v : V) (sound : IsSound q old) (set : SetsInput q old new k v) (is : q.is_input k ≡ true) (given : K → V) (gives : given k ≡ v) where
    entry_is : q.is_input set.entry.key ≡ true
    entry_is = subst (λ y. q.is_input y ≡ true) (sym set.key) is

    -- the entry has its value over the given inputs
    entry_value : set.entry.value ≡ q.val given set.entry.key
    entry_value = set.value ∙ sym gives ∙ sym (laws.inputs given k is) ∙ ap (q.val given) (sym set.key)

    -- a read of a record of the old graph that has changed had changed
    read_before : (a : ℕ) (r : Node K V) → at old a ≡ Some r → HasChangedRead q new given r → HasChangedRead q old given r
    read_before a r at_a ch =
        elim (cases_eq ch.node set.node) [
          | inr n ↦ record { node = ch.node; read = ch.read; is_read = ch.is_read; stands = sym (set.puts.others ch.node n) ∙ ch.stands; changed = ch.changed }
          | inl ji ↦
              (let d = sound.stands a ch.node r at_a ch.is_read in
              let at_i : at old set.node ≡ Some d.0 = subst (λ m. at old m ≡ Some d.0) ji d.1 in
              let here : at new set.node ≡ Some ch.read = subst (λ m. at new m ≡ Some ch.read) ji ch.stands in
              let same : ch.read ≡ set.entry = (let h = set.puts.here in cc) in
              let key : d.0.key ≡ set.entry.key = same_key q laws old new set.node set.entry sound set.puts d.0 at_i in
              let rec : record_of q old k ≡ Some d.0 = record_is q old k set.node d.0 (subst (λ y. node_of q old y ≡ Some set.node) (key ∙ set.key) (sound.numbered set.node d.0 at_i)) at_i in
              let moves : Moves old.revision d.0 set.entry = subst (λ o. IsStamped old.revision o set.entry) rec set.stamped in
              record {
                node = ch.node;
                read = d.0;
                is_read = ch.is_read;
                stands = d.1;
                changed =
                    elim ch.changed [
                      | inl lt ↦ elim moves [
                        | inl m ↦ inl (let s : ch.read.changed_at ≡ d.0.changed_at = ap (λ (y : Node K V). y.changed_at) same ∙ m.1 in omega arith)
                        | inr m ↦ inr (λ e. m.0 (entry_value ∙ ap (q.val given) (sym key) ∙ sym e))
                      ]
                      | inr ne ↦ absurd (ne (ap (λ (y : Node K V). y.value) same ∙ entry_value ∙ ap (λ (y : Node K V). q.val given y.key) (sym same)))
                    ];
              })
        ]

    pub set_was_due : WasDue q old new given
    set_was_due x due =
        elim (q.same set.entry.key x) as (λ b. q.same set.entry.key x ≡ b → IsDue q old given x) [
          | true ↦ (λ e.
              let rec : record_of q new x ≡ Some set.entry = ap (λ o. option_map_or (at new) o None) (set.puts.numbers x ∙ ap (λ b. cond b (Some set.node) (node_of q old x)) e) ∙ set.puts.here in
              elim due [
                | inl none ↦ absurd (let bad : ⊥ = cc in bad)
                | inr d ↦ absurd (let same : d.0 ≡ set.entry = (let h = d.1.0 in cc) in
                    let bad : ⊥ = subst (λ l. Has l d.1.1.node) (ap (λ (y : Node K V). y.reads) same ∙ set.reads) d.1.1.is_read in bad)
              ])
          | false ↦ (λ e.
              let was = other_record q laws old new set.node set.entry sound set.puts entry_is x e in
              elim due [
                | inl none ↦ inl (sym was ∙ none)
                | inr d ↦ (let rec : record_of q old x ≡ Some d.0 = sym was ∙ d.1.0 in
                    let n = record_node q old x d.0 rec in
                    inr (d.0, (rec, read_before n.0 d.0 n.1.1 d.1.1)))
              ])
        ] refl

  -- the number of the revision and the runs are nothing to what is due
  pub next_was_due : (q : Queries K V) (old : Held K V) (n : ℕ) (rs : List K) (given : K → V) → WasDue q old (record old { revision = n; runs = rs }) given
  next_was_due q old n rs given x due =
      elim due [
        | inl none ↦ inl none
        | inr d ↦ inr (d.0, (d.1.0, record { node = d.1.1.node; read = d.1.1.read; is_read = d.1.1.is_read; stands = d.1.1.stands; changed = d.1.1.changed }))
      ]
