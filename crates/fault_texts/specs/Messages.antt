-- The message of each rule of trees, declarations, expressions, statements and ends of units, by its number: what stands in front of the
-- name that it prints, what stands behind that name, and what stands between the types that it prints.
use Rattle.std.specs.Prelude.{ℕ, ◌==◌, ◌||◌, Bool, List, codes, Option, Some, None, if◌then◌else◌, nat_lt}

-- rules of trees and of constants (6.4, 6.5 to 6.9)
unfoldable pub front_lexical : ℕ → List ℕ
front_lexical rule =
    if rule == 301 then codes "syntax"
    else (if rule == 302 then codes "empty item"
    else (if rule == 303 then codes "brackets too deep"
    else (if rule == 304 then codes "left out: "
    else (if rule == 311 then codes "integer constant too large"
    else (if rule == 312 then codes "bad number"
    else (if rule == 313 then codes "bad character constant"
    else (if rule == 314 then codes "bad escape"
    else (if rule == 315 then codes "string prefixes differ"
    else codes ""))))))))

-- rules of declarations (6.7, 6.9)
unfoldable pub front_declared : ℕ → List ℕ
front_declared rule =
    if rule == 401 then codes "declares nothing"
    else (if rule == 404 then codes "typedef "
    else (if rule == 405 then codes "several storage classes"
    else (if rule == 406 then codes "storage class not allowed here"
    else (if rule == 407 then codes "type specifiers don't combine"
    else (if rule == 408 then codes "member "
    else (if rule == 409 then codes "bad bit-field "
    else (if rule == 411 then codes "enumerator "
    else (if rule == 412 || rule == 413 then codes "tag "
    else (if rule == 414 then codes "enum "
    else (if rule == 415 then codes "restrict on "
    else (if rule == 416 then codes "function specifier on no function"
    else (if rule == 417 then codes "bad alignment"
    else (if rule == 418 then codes "array of "
    else (if rule == 419 then codes "bad array size"
    else (if rule == 420 then codes "qualified array out of a parameter"
    else (if rule == 421 then codes "function returning "
    else (if rule == 422 then codes "parameter of type "
    else (if rule == 425 then codes "too many initializers"
    else (if rule == 426 then codes "bad designator"
    else (if rule == 427 then codes "initializer isn't constant"
    else (if rule == 428 then codes "can't initialize "
    else (if rule == 429 then codes "static assertion: "
    else (if rule == 431 then codes "body without a function declarator"
    else (if rule == 432 then codes "parameter without a name"
    else (if rule == 435 then codes "bad _Thread_local"
    else codes "")))))))))))))))))))))))))

-- rules of expressions (6.5, 6.6)
unfoldable pub front_judged : ℕ → List ℕ
front_judged rule =
    if rule == 501 then codes ""
    else (if rule == 502 || rule == 506 then codes "bad operands"
    else (if rule == 509 then codes "no member "
    else (if rule == 530 then codes "not an integer constant expression"
    else (if rule == 531 then codes "constant out of range"
    else (if rule == 532 then codes "floating constant isn't evaluated"
    else codes "bad operands: ")))))

-- rules of statements (6.8)
unfoldable pub front_stated : ℕ → List ℕ
front_stated rule =
    if rule == 601 then codes "label "
    else (if rule == 602 then codes "outside a switch"
    else (if rule == 603 then codes "condition of type "
    else (if rule == 604 then codes "switch on "
    else (if rule == 606 then codes "case value twice"
    else (if rule == 607 then codes "default twice"
    else (if rule == 608 then codes "loop condition of type "
    else (if rule == 609 then codes "storage class in for"
    else (if rule == 610 then codes "no label "
    else (if rule == 611 then codes "continue outside a loop"
    else (if rule == 612 then codes "break outside a loop or switch"
    else (if rule == 613 then codes "value returned from void"
    else (if rule == 614 then codes "no value returned"
    else (if rule == 615 then codes "can't return "
    else codes "")))))))))))))

-- rules at the end of a unit (6.9)
unfoldable pub front_ended : ℕ → List ℕ
front_ended rule =
    if rule == 701 then codes "static "
    else codes ""

abbrev pub front_of : ℕ → List ℕ
front_of rule =
    if nat_lt rule 400 then front_lexical rule
    else (if nat_lt rule 500 then front_declared rule
    else (if nat_lt rule 600 then front_judged rule
    else (if nat_lt rule 700 then front_stated rule
    else front_ended rule)))

-- what stands behind the name, where a rule prints one
unfoldable pub behind_lexical : ℕ → Option (List ℕ)
behind_lexical rule =
    if rule == 304 then Some (codes "")
    else None

unfoldable pub behind_declared : ℕ → Option (List ℕ)
behind_declared rule =
    if rule == 402 then Some (codes " declared twice")
    else (if rule == 403 || rule == 404 then Some (codes " is ")
    else (if rule == 408 then Some (codes " of type ")
    else (if rule == 409 || rule == 429 then Some (codes "")
    else (if rule == 411 then Some (codes " out of int")
    else (if rule == 412 then Some (codes " of another kind")
    else (if rule == 413 then Some (codes " defined twice")
    else (if rule == 414 then Some (codes " isn't complete")
    else (if rule == 423 then Some (codes " has incomplete type ")
    else (if rule == 424 then Some (codes " can't be initialized")
    else (if rule == 430 then Some (codes " has internal and external linkage")
    else None))))))))))

unfoldable pub behind_judged : ℕ → Option (List ℕ)
behind_judged rule =
    if rule == 501 then Some (codes " isn't declared")
    else (if rule == 509 then Some (codes "")
    else None)

unfoldable pub behind_stated : ℕ → Option (List ℕ)
behind_stated rule =
    if rule == 601 then Some (codes " twice")
    else (if rule == 610 then Some (codes "")
    else None)

unfoldable pub behind_ended : ℕ → Option (List ℕ)
behind_ended rule =
    if rule == 701 then Some (codes " used and not defined")
    else (if rule == 702 then Some (codes " defined twice")
    else (if rule == 703 then Some (codes " incomplete at the end")
    else None))

abbrev pub behind_of : ℕ → Option (List ℕ)
behind_of rule =
    if nat_lt rule 400 then behind_lexical rule
    else (if nat_lt rule 500 then behind_declared rule
    else (if nat_lt rule 600 then behind_judged rule
    else (if nat_lt rule 700 then behind_stated rule
    else behind_ended rule)))

-- what stands between two types
unfoldable pub between : ℕ → List ℕ
between rule =
    if rule == 403 || rule == 404 then codes ", was "
    else (if rule == 428 then codes " from "
    else (if rule == 615 then codes " as "
    else codes ", "))

-- the rules of trees and expressions that a warning is given for; all others from 301 to 703 are errors
abbrev pub is_warning : ℕ → Bool
is_warning rule = rule == 302 || rule == 532
