-- Questions of files are told apart.
use Rattle.std.proofs.Common.{◌≡◌, refl, ap, true, false}
use Rattle.std.proofs.lemmas.Slice.Eq.{bytes_eq-Decides}
use Rattle.asking.specs.Asking.{IsLawful}
use Rattle.include_units.specs.Files.{Question, Exists, Text, Lines, same, files}

clash : false ≡ true → ⊥
clash e = cc

same_is : (p q : Question) → same p q ≡ true → p ≡ q
same_is (Exists p) (Exists q) h = ap Exists ((bytes_eq-Decides p q).0 h)
same_is (Exists p) (Text q) h = absurd (clash h)
same_is (Exists p) (Lines q) h = absurd (clash h)
same_is (Text p) (Exists q) h = absurd (clash h)
same_is (Text p) (Text q) h = ap Text ((bytes_eq-Decides p q).0 h)
same_is (Text p) (Lines q) h = absurd (clash h)
same_is (Lines p) (Exists q) h = absurd (clash h)
same_is (Lines p) (Text q) h = absurd (clash h)
same_is (Lines p) (Lines q) h = ap Lines ((bytes_eq-Decides p q).0 h)

same_self : (q : Question) → same q q ≡ true
same_self (Exists p) = (bytes_eq-Decides p p).1 refl
same_self (Text p) = (bytes_eq-Decides p p).1 refl
same_self (Lines p) = (bytes_eq-Decides p p).1 refl

pub lawful : IsLawful files
lawful = record { same = same_is; same_self = same_self }
