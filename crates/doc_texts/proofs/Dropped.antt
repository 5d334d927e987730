-- What stays counted where a text goes, or takes the place of another.
use Rattle.std.proofs.Common.{◌≡◌, ℕ, ◌+◌, ◌-◌, ◌≤◌, true, false, List, length, Option, Some, None, is_some, sym, refl, ap, ◌∙◌, arith, true≢false, cond, zero, suc}
use Rattle.std.specs.FinMap.{get, get-empty, empty_of_len, contains_key}
use Rattle.doc_texts.specs.Kept.{Counted}
use Rattle.doc_texts.specs.Texts.{Texts, OpenText, shown, text_at, file_count, byte_count, without_disk, with_open, without_open}
use Rattle.doc_texts.proofs.Counts.{marks, held, files_len, files_with_open, files_without_disk, files_without_disk_open, files_without_open, files_without_open_disk, bytes_without_disk, bytes_without_open}
use Rattle.doc_texts.proofs.Found.{disk_size_is, disk_size_within, open_size_is, open_size_within}
use Rattle.doc_texts.proofs.Maps.{by_bytes}

pub none_is : {X : Type 0} (o : Option X) → is_some o ≡ false → o ≡ None
none_is None e = refl
none_is (Some x) e = absurd (true≢false e)

at_least : (n : ℕ) → ¬ (n ≡ 0) → 1 ≤ n
at_least zero h = absurd (h refl)
at_least (suc n) h = omega arith

-- where a path has a text there is a file
pub some_file : (t : Texts) (p : List ℕ) → is_some (text_at t p) ≡ true → 1 ≤ file_count t
some_file t p is =
    at_least (file_count t) (λ none. true≢false (sym is ∙ sym (held t p) ∙ ap (λ m. contains_key m p) (empty_of_len (marks t) (sym (files_len t) ∙ none)) ∙ ap is_some (get-empty by_bytes p)))

on_disk : (t : Texts) (p x : List ℕ) → Some x ≡ get t.disk p → is_some (text_at t p) ≡ true
unfolding text_at
on_disk t p x found = hidden (get t.opened p) (get t.disk p) (ap is_some (sym found))
  where
    hidden : (document : Option OpenText) (text : Option (List ℕ)) → is_some text ≡ true → is_some (shown document text) ≡ true
    hidden None text is = is
    hidden (Some document) text is = refl

is_open : (t : Texts) (p : List ℕ) (d : OpenText) → Some d ≡ get t.opened p → is_some (text_at t p) ≡ true
unfolding text_at
is_open t p d found = ap (λ document. is_some (shown document (get t.disk p))) (sym found)

module _ (t : Texts) (p : List ℕ) (files bytes : ℕ) (k : Counted t files bytes) where
  module _ (x : List ℕ) (found : Some x ≡ get t.disk p) (n : ℕ) (long : n ≡ length x) where
    pub disk_bytes : n ≤ bytes
    disk_bytes = let size = disk_size_is t p (Some x) found in let within = disk_size_within t p in omega (arith, size, within, long, k.summed)

    pub disk_files : 1 ≤ files
    disk_files = let some = some_file t p (on_disk t p x found) in omega (arith, some, k.counted)

    disk_gone : bytes - n ≡ byte_count (without_disk t p)
    disk_gone = let size = disk_size_is t p (Some x) found in let less = bytes_without_disk t p in omega (arith, size, less, long, k.summed)

    pub disk_dropped : get t.opened p ≡ None → Counted (without_disk t p) (files - 1) (bytes - n)
    disk_dropped shut = record {
      counted = ap (λ all. all - 1) k.counted ∙ sym (files_without_disk t p shut (ap is_some (sym found)));
      summed = disk_gone;
    }

    pub hidden_dropped : is_some (get t.opened p) ≡ true → Counted (without_disk t p) files (bytes - n)
    hidden_dropped opened = record {
      counted = k.counted ∙ sym (files_without_disk_open t p opened);
      summed = disk_gone;
    }

  module _ (d : OpenText) (found : Some d ≡ get t.opened p) (n : ℕ) (long : n ≡ length d.text) where
    pub open_bytes : n ≤ bytes
    open_bytes = let size = open_size_is t p (Some d) found in let within = open_size_within t p in omega (arith, size, within, long, k.summed)

    pub open_files : 1 ≤ files
    open_files = let some = some_file t p (is_open t p d found) in omega (arith, some, k.counted)

    open_gone : bytes - n ≡ byte_count (without_open t p)
    open_gone = let size = open_size_is t p (Some d) found in let less = bytes_without_open t p in omega (arith, size, less, long, k.summed)

    pub open_dropped : get t.disk p ≡ None → Counted (without_open t p) (files - 1) (bytes - n)
    open_dropped gone = record {
      counted = ap (λ all. all - 1) k.counted ∙ sym (files_without_open t p gone (ap is_some (sym found)));
      summed = open_gone;
    }

    pub open_uncovers : is_some (get t.disk p) ≡ true → Counted (without_open t p) files (bytes - n)
    open_uncovers on_disk = record {
      counted = k.counted ∙ sym (files_without_open_disk t p on_disk);
      summed = open_gone;
    }

files_again : (t : Texts) (p : List ℕ) (d e : OpenText) → Some d ≡ get t.opened p → file_count (with_open t p e) ≡ file_count t
files_again t p d e found = files_with_open t p e ∙ ap (λ b. cond b (file_count t) (file_count t + 1)) (is_open t p d found)

pub open_again : (t : Texts) (p : List ℕ) (files bytes : ℕ) → Counted t files bytes → (d e : OpenText) → Some d ≡ get t.opened p → (n : ℕ) → n ≡ byte_count (with_open t p e) → Counted (with_open t p e) files n
open_again t p files bytes k d e found n summed = record {
  counted = k.counted ∙ sym (files_again t p d e found);
  summed = summed;
}
