-- Texts within the limits, and beyond them.
use Rattle.std.proofs.Common.{◌≡◌, ℕ, ◌+◌, ◌-◌, ◌≤◌, ℤ, Bool, true, false, cond, List, length, Option, Some, None, IfSome, Result, Ok, Err, nat_lt, sym, refl, ap, ◌∙◌, subst, arith}
use Rattle.std.proofs.lemmas.Bool.{ltb-false, le-ltb}
use Rattle.doc_texts.specs.declared.docs.Counts.{Counts}
use Rattle.doc_texts.specs.declared.error.DocError.{DocError}
use Rattle.doc_texts.specs.declared.error.DocError.TheVariants.{TooManyFiles, TooMuchText}
use Rattle.std.specs.FinMap.{get}
use Rattle.doc_texts.specs.Docs.{allowed, fits}
use Rattle.doc_texts.specs.Kept.{Counted, disk_size, open_size}
use Rattle.doc_texts.specs.Limits.{most_files, most_bytes}
use Rattle.doc_texts.specs.Texts.{Texts, OpenText, file_count, byte_count, with_disk, with_open}
use Rattle.doc_texts.proofs.Counts.{bytes_with_disk, bytes_with_open}
use Rattle.doc_texts.proofs.Found.{disk_size_within, open_size_within, open_size_is}

abbrev chain : {X : Type 0} → Bool → Bool → X → Result X DocError
chain b c x = cond b (Err TooManyFiles) (cond c (Err TooMuchText) (Ok x))

-- a refusal doesn't depend on what would be given
refused_by : {X Y : Type 0} (b c : Bool) (x : X) (y : Y) (e : DocError) → Err e ≡ chain b c x → chain b c y ≡ Err e
refused_by true c x y e is = cc is
refused_by false true x y e is = cc is
refused_by false false x y e is = absurd (cc is)

both_false : {X : Type 0} (b c : Bool) (x y : X) → Ok y ≡ chain b c x → (b ≡ false) × (c ≡ false) × (y ≡ x)
both_false true c x y is = absurd (cc is)
both_false false true x y is = absurd (cc is)
both_false false false x y is = (refl, refl, cc is)

-- texts within the limits, and how many files and bytes they are
pub record Within (t : Texts) (files bytes : ℕ) : Type 0 where
  pub counted : Counted t files bytes
  pub few : files ≤ most_files
  pub small : bytes ≤ most_bytes

module _ (files bytes : ℕ) (t : Texts) (counted : files ≡ file_count t) (summed : bytes ≡ byte_count t) where
  pub beyond : (e : DocError) → ◌≡◌ {A = Result Counts DocError} (Err e) (allowed files bytes (record { files = files; bytes = bytes })) → fits t ≡ Err e
  unfolding allowed
  beyond e is = (λ i. allowed (sym counted i) (sym summed i) t) ∙ refused_by (nat_lt most_files files) (nat_lt most_bytes bytes) (record { files = files; bytes = bytes }) t e is

  pub within_limits : (counts : Counts) → ◌≡◌ {A = Result Counts DocError} (Ok counts) (allowed files bytes (record { files = files; bytes = bytes })) → Within t counts.files counts.bytes
  unfolding allowed
  within_limits counts is =
      let k = both_false (nat_lt most_files files) (nat_lt most_bytes bytes) (record { files = files; bytes = bytes }) counts is in
      let fewer : files ≤ most_files = ltb-false most_files files k.0 in
      let smaller : bytes ≤ most_bytes = ltb-false most_bytes bytes k.1 in
      let same : counts.files ≡ files = ap (λ c. c.files) k.2 in
      let sum : counts.bytes ≡ bytes = ap (λ c. c.bytes) k.2 in
      record { counted = record { counted = same ∙ counted; summed = sum ∙ summed }; few = omega (arith, fewer, same); small = omega (arith, smaller, sum) }

pub if_some_at : {X : Type 0} (r s : Option X) (P : X → Type 0) → r ≡ s → IfSome s P → IfSome r P
if_some_at r s P same h = subst (λ o. IfSome o P) (sym same) h

pub if_some_from : {X : Type 0} (r : Option X) (x : X) (P : X → Type 0) → r ≡ Some x → IfSome r P → P x
if_some_from r x P same h = subst (λ o. IfSome o P) same h

pub if_some_more : {X : Type 0} (r : Option X) {P Q : X → Type 0} → ((x : X) → P x → Q x) → IfSome r P → IfSome r Q
if_some_more None more h = tt
if_some_more (Some x) more h = more x h

pub if_some_all : {X : Type 0} (r : Option X) {P : X → Type 0} → ((x : X) → P x) → IfSome r P
if_some_all None all = tt
if_some_all (Some x) all = all x

pub same_version : (uri text : List ℕ) (v w : ℤ) → v ≡ w → ◌≡◌ {A = OpenText} (record { uri = uri; version = v; text = text }) (record { uri = uri; version = w; text = text })
same_version uri text v w same = λ i. record { uri = uri; version = same i; text = text }

pub counted_at : {files bytes : ℕ} (t u : Texts) → t ≡ u → Counted t files bytes → Counted u files bytes
counted_at {files} {bytes} t u same k = subst (λ t. Counted t files bytes) same k

-- texts within the limits are taken
pub taken : (t : Texts) (files bytes : ℕ) → Within t files bytes → fits t ≡ Ok t
unfolding allowed
taken t files bytes k =
    (λ i. chain (nat_lt most_files (sym k.counted.counted i)) (nat_lt most_bytes (sym k.counted.summed i)) t)
    ∙ (λ i. chain (le-ltb most_files files k.few i) (le-ltb most_bytes bytes k.small i) t)

-- ---- how many bytes there are after a change

pub bytes_set_disk : (t : Texts) (p x : List ℕ) (total freed added : ℕ) → total ≡ byte_count t → freed ≡ disk_size t p → added ≡ length x → total - freed + added ≡ byte_count (with_disk t p x)
bytes_set_disk t p x total freed added a b c =
    let put = bytes_with_disk t p x in
    let less = disk_size_within t p in
    omega (arith, a, b, c, put, less)

pub bytes_set_open : (t : Texts) (p : List ℕ) (d : OpenText) (total freed added : ℕ) → total ≡ byte_count t → freed ≡ open_size t p → added ≡ length d.text → total - freed + added ≡ byte_count (with_open t p d)
bytes_set_open t p d total freed added a b c =
    let put = bytes_with_open t p d in
    let less = open_size_within t p in
    omega (arith, a, b, c, put, less)

pub bytes_add_open : (t : Texts) (p : List ℕ) (d : OpenText) (total added : ℕ) → total ≡ byte_count t → get t.opened p ≡ None → added ≡ length d.text → total + added ≡ byte_count (with_open t p d)
bytes_add_open t p d total added a shut c =
    let put = bytes_with_open t p d in
    let none = open_size_is t p None (sym shut) in
    omega (arith, a, c, put, none)
