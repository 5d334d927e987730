-- When two answers that a unit got of files, or two configurations, are the same: exactly where they are equal.
use Rattle.std.specs.Prelude.{Bool, false, ◌&&◌, List, bytes_eq}
use Rattle.std.specs.Bool.{beq}
use Rattle.std.specs.Cmp.Lexicographic.{pointwise}
use Rattle.tok_data.specs.declared.tokens.PpToken.{PpToken}
use Rattle.tok_data.specs.contracts.tokens.PpTokenPartialEq.TheImpl as tokens
use Rattle.project_conf.specs.declared.conf.UnitConf.{UnitConf}
use Rattle.project_conf.specs.declared.options.Define.{Define}
use Rattle.project_conf.specs.declared.options.Define.TheVariants.{Set, Unset}

abbrev pub same_bool : Bool → Bool → Bool
same_bool a b = beq a b

-- ---- tokens

-- by kind, spelling and what stands before
abbrev pub same_token : PpToken → PpToken → Bool
same_token a b = tokens.eq-value.it a b

unfoldable pub same_tokens : List PpToken → List PpToken → Bool
same_tokens a b = pointwise same_token a b

-- ---- configurations

abbrev pub same_define : Define → Define → Bool
same_define (Set a x) (Set b y) = bytes_eq a b && bytes_eq x y
same_define (Set a x) (Unset b) = false
same_define (Unset a) (Set b y) = false
same_define (Unset a) (Unset b) = bytes_eq a b

unfoldable pub same_conf : UnitConf → UnitConf → Bool
same_conf a b = bytes_eq a.file b.file && (pointwise bytes_eq a.includes b.includes && pointwise same_define a.defines b.defines)
