-- The map that the table is seen as, read and changed through the table of the code.
use Rattle.std.proofs.Common.{◌≡◌, ℕ, cond, List, [], ◌∷◌, String, string_bytes, bytes_eq, Some, None, refl, sym, ap, ◌∙◌}
use Rattle.std.proofs.lemmas.Slice.Eq.{bytes_eq-Decides}
use Rattle.std.proofs.lemmas.Map.Text.{is_eq-slice_cmp, hash_map_updates_text}
use Rattle.std.specs.Bool.{one_answer, Decides}
use Rattle.std.specs.Cmp.Lexicographic.{slice_cmp, nat_list_cmp_total}
use Rattle.std.specs.Ordering.{nat_cmp, eq_by_cmp}
use Rattle.std.specs.FinMap as map
use Rattle.std.specs.HashMap as hash
use Rattle.std.specs.HashMap.{HashMap}
use Rattle.std.specs.Map.{lookup}
use Rattle.std.specs.String.{string_eq}
use Rattle.macro_table.specs.declared.definition.MacroDef.{MacroDef}
use Rattle.macro_table.specs.Named.{named}

abbrev pub Table : Type 0
Table = map.FinMap (slice_cmp nat_cmp) MacroDef

abbrev pub seen : {A : Type 0} → List (String A × MacroDef) → Table
seen es = map.from_entries (named es)

found : {A : Type 0} (q : List ℕ) (es : List (String A × MacroDef)) → map.find (slice_cmp nat_cmp) q (named es) ≡ lookup (λ k. bytes_eq q (string_bytes k)) es
found q [] = refl
found q (e ∷ es) = rw (is_eq-slice_cmp q (string_bytes e.0)) (ap (cond (bytes_eq q (string_bytes e.0)) (Some e.1)) (found q es))

pub get_seen : {A : Type 0} (q : List ℕ) (es : List (String A × MacroDef)) → map.get (seen es) q ≡ lookup (λ k. bytes_eq q (string_bytes k)) es
get_seen q es = map.get-from_entries nat_list_cmp_total (named es) q ∙ found q es

same_either : (a b : List ℕ) → bytes_eq a b ≡ eq_by_cmp (slice_cmp nat_cmp) b a
same_either a b =
    let there : Decides (bytes_eq a b) (a ≡ b) = bytes_eq-Decides a b in
    let back : Decides (bytes_eq b a) (b ≡ a) = bytes_eq-Decides b a in
    one_answer (bytes_eq a b) (bytes_eq b a) there ((λ e. sym (back.0 e)), (λ e. back.1 (sym e))) ∙ sym (is_eq-slice_cmp b a)

same_seen : (m n : Table) → ((q : List ℕ) → map.get m q ≡ map.get n q) → m ≡ n
same_seen m n e = map.same_map nat_list_cmp_total (map.slice_cmp-IsAntisymmetric map.nat_cmp-IsAntisymmetric) m n e

pub seen_insert : {A S : Type 0} (bs : List ℕ) (m n : HashMap (String A) MacroDef S) (def : MacroDef)
    → hash.UpdatesBy string_eq (λ k. bytes_eq bs (string_bytes k)) m n (Some def) → seen n.entries ≡ map.insert (seen m.entries) bs def
seen_insert bs m n def updates = same_seen _ _ (λ (q : List ℕ).
    get_seen q n.entries
    ∙ hash_map_updates_text bs m n (Some def) updates q
    ∙ (ap (λ b. cond b (Some def) (lookup (λ k. bytes_eq q (string_bytes k)) m.entries)) (same_either bs q)
    ∙ (ap (cond (eq_by_cmp (slice_cmp nat_cmp) q bs) (Some def)) (sym (get_seen q m.entries))
    ∙ sym (map.get-insert nat_list_cmp_total (seen m.entries) bs def q))))

pub seen_remove : {A S : Type 0} (bs : List ℕ) (m n : HashMap (String A) MacroDef S)
    → hash.UpdatesBy string_eq (λ k. bytes_eq bs (string_bytes k)) m n None → seen n.entries ≡ map.remove (seen m.entries) bs
seen_remove bs m n updates = same_seen _ _ (λ (q : List ℕ).
    get_seen q n.entries
    ∙ hash_map_updates_text bs m n None updates q
    ∙ (ap (λ b. cond b None (lookup (λ k. bytes_eq q (string_bytes k)) m.entries)) (same_either bs q)
    ∙ (ap (cond (eq_by_cmp (slice_cmp nat_cmp) q bs) None) (sym (get_seen q m.entries))
    ∙ sym (map.get-remove nat_list_cmp_total (seen m.entries) bs q))))
