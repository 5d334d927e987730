-- What is kept of an earlier moment.
use Rattle.std.proofs.Common.{◌≡◌, List, ℕ, true, false, Option, sym, refl, ap, ◌∙◌}
use Rattle.std.specs.BTreeMap as tree
use Rattle.std.specs.BTreeMap.{BTreeMap}
use Rattle.std.specs.FinMap.{get, contains_key, insert, from_entries}
use Rattle.doc_texts.specs.Prior.{Prior, remembered}
use Rattle.doc_texts.specs.Texts.{Texts, text_at}
use Rattle.doc_texts.proofs.Maps.{by_bytes, seen_at}

pub kept_before : (prior : Prior) (t : Texts) (p : List ℕ) → contains_key prior p ≡ true → prior ≡ remembered prior t p
unfolding remembered
kept_before prior t p is = rw is refl

pub kept_now : (prior : Prior) (t : Texts) (p : List ℕ) → contains_key prior p ≡ false → insert prior p (text_at t p) ≡ remembered prior t p
unfolding remembered
kept_now prior t p absent = rw absent refl

module _ (m : BTreeMap (List ℕ) (Option (List ℕ))) (prior : Prior) (view : from_entries m.entries ≡ prior) (p : List ℕ) where
  pub prior_at : (r : Option (Option (List ℕ))) → r ≡ tree.get by_bytes m p → get prior p ≡ r
  prior_at r found = ap (λ n. get n p) (sym view) ∙ seen_at m p ∙ sym found
