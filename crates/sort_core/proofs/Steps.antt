-- Steps of loops over functions, and over nonterminals with their groups.
use Rattle.std.proofs.Common.{◌≡◌, ◌<◌, ◌+◌, ℕ, Option, Some, None, List, ◌∷◌, ◌++◌, map, drop, length, get_or, sym, ap, ap₂, ◌∙◌, append_assoc, arith}
use Rattle.std.specs.Option.{option_or}
use Rattle.std.specs.List.{flat_map, zip}
use Rattle.sig_core.specs.Signatures.{Declarations}
use Rattle.syntax_core.specs.declared.fault.Fault.{Fault}
use Rattle.syntax_core.specs.declared.syntax.Function.{Function}
use Rattle.sort_core.specs.declared.branch.OpenCase.{OpenCase}
use Rattle.sort_core.specs.Branches.{open_case, open_cases}
use Rattle.name_core.specs.Faults.{first}
use Rattle.sort_core.proofs.Dues.{here_then}
use Rattle.name_core.proofs.Firsts.{first-flat_map}

-- the cases of one more function are made
pub cases_more : (sig : Declarations) (n k : ℕ) (fs : List Function) (f : Function) (out new whole : List OpenCase) → k < length fs → f ≡ get_or fs k f →
    new ≡ out ++ map (open_case sig (record { 0 = n + k }) f) f.definition.cases → out ++ open_cases sig (n + k) (drop k fs) ≡ whole →
    new ++ open_cases sig (n + (k + 1)) (drop (k + 1) fs) ≡ whole
cases_more sig n k fs f out new whole within is made left =
    let cases = map (open_case sig (record { 0 = n + k }) f) f.definition.cases in
    let rest = drop (k + 1) fs in
    let next : n + (k + 1) ≡ (n + k) + 1 = omega arith in
    ap₂ (λ xs m. xs ++ open_cases sig m rest) made next
    ∙ append_assoc out cases (open_cases sig ((n + k) + 1) rest)
    ∙ sym (ap (λ ys. out ++ open_cases sig (n + k) ys) (here_then fs k f within is))
    ∙ left

pairs_here : {X Y : Type 0} (xs : List X) (ys : List Y) (k : ℕ) (x : X) (y : Y) → k < length xs → x ≡ get_or xs k x → k < length ys → y ≡ get_or ys k y →
    zip (drop k xs) (drop k ys) ≡ (x, y) ∷ zip (drop (k + 1) xs) (drop (k + 1) ys)
pairs_here xs ys k x y x_in x_is y_in y_is = ap₂ zip (here_then xs k x x_in x_is) (here_then ys k y y_in y_is)

first_here : {X Y : Type 0} (find : X × Y → List Fault) (xs : List X) (ys : List Y) (k : ℕ) (x : X) (y : Y) (whole : Option Fault) →
    k < length xs → x ≡ get_or xs k x → k < length ys → y ≡ get_or ys k y → first (flat_map find (zip (drop k xs) (drop k ys))) ≡ whole →
    option_or (first (find (x, y))) (first (flat_map find (zip (drop (k + 1) xs) (drop (k + 1) ys)))) ≡ whole
first_here find xs ys k x y whole x_in x_is y_in y_is left =
    sym (ap (λ ps. first (flat_map find ps)) (pairs_here xs ys k x y x_in x_is y_in y_is) ∙ first-flat_map find (x, y) (zip (drop (k + 1) xs) (drop (k + 1) ys))) ∙ left

pub pair_faults : {X Y : Type 0} (find : X × Y → List Fault) (xs : List X) (ys : List Y) (k : ℕ) (x : X) (y : Y) (whole o : Option Fault) (fault : Fault) →
    k < length xs → x ≡ get_or xs k x → k < length ys → y ≡ get_or ys k y → first (flat_map find (zip (drop k xs) (drop k ys))) ≡ whole →
    o ≡ first (find (x, y)) → o ≡ Some fault → Some fault ≡ whole
pair_faults find xs ys k x y whole o fault x_in x_is y_in y_is left answer some =
    sym (ap (λ a. option_or a (first (flat_map find (zip (drop (k + 1) xs) (drop (k + 1) ys))))) (sym answer ∙ some)) ∙ first_here find xs ys k x y whole x_in x_is y_in y_is left

pub pair_clean : {X Y : Type 0} (find : X × Y → List Fault) (xs : List X) (ys : List Y) (k : ℕ) (x : X) (y : Y) (whole o : Option Fault) →
    k < length xs → x ≡ get_or xs k x → k < length ys → y ≡ get_or ys k y → first (flat_map find (zip (drop k xs) (drop k ys))) ≡ whole →
    o ≡ first (find (x, y)) → o ≡ None → first (flat_map find (zip (drop (k + 1) xs) (drop (k + 1) ys))) ≡ whole
pair_clean find xs ys k x y whole o x_in x_is y_in y_is left answer none =
    sym (ap (λ a. option_or a (first (flat_map find (zip (drop (k + 1) xs) (drop (k + 1) ys))))) (sym answer ∙ none)) ∙ first_here find xs ys k x y whole x_in x_is y_in y_is left
