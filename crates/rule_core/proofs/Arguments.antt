-- Steps of loops over the arguments of a call and the parameters of its relation.
use Rattle.std.proofs.Common.{◌≡◌, ℕ, ◌+◌, ◌<◌, Bool, true, ◌&&◌, List, [], ◌∷◌, Some, None, length, map, drop, get_or, refl, sym, ap, ap₂, ◌∙◌}
use Rattle.std.specs.List.{cons_option}
use lib.Pointwise.{pointwise}
use Rattle.std.proofs.lemmas.List.{drop_more}
use Rattle.sig_core.specs.declared.value.Sort.{Sort}
use Rattle.sig_core.specs.declared.signature.Kind.{Kind}
use Rattle.sig_core.specs.declared.signature.Kind.TheVariants.{Term, Input, Output}
use Rattle.sig_core.specs.declared.signature.Param.{Param}
use Rattle.expr_core.specs.declared.expr.Expr.{Expr}
use Rattle.sig_core.specs.Signatures.{plain_sorts, inputs_of, outputs_of}
use Rattle.rule_core.specs.declared.flow.Mode.{Mode}
use Rattle.rule_core.specs.declared.flow.Mode.TheVariants as mode
use Rattle.rule_core.specs.Modes.{sort_in_mode, sorts_of}

-- the kind of the parameter at hand, and those that are left
pub kinds_more : (params : List Param) (i : ℕ) (p : Param) (k : Kind) → i < length params → p ≡ get_or params i p → p.kind ≡ k →
    map (λ (q : Param). q.kind) (drop i params) ≡ k ∷ map (λ (q : Param). q.kind) (drop (i + 1) params)
kinds_more params i p k l e h =
    ap (map (λ (q : Param). q.kind)) (drop_more params i p l) ∙ ap (λ (q : Param). q.kind ∷ map (λ (q : Param). q.kind) (drop (i + 1) params)) (sym e)
    ∙ ap (λ (j : Kind). j ∷ map (λ (q : Param). q.kind) (drop (i + 1) params)) h

pub mode_sorts-Input : (ks : List Kind) → sorts_of mode.Input ks ≡ inputs_of ks (plain_sorts ks)
mode_sorts-Input [] = refl
mode_sorts-Input (Term t ∷ ks) = mode_sorts-Input ks
mode_sorts-Input (Input s ∷ ks) = ap (λ ss. s ∷ ss) (mode_sorts-Input ks)
mode_sorts-Input (Output s ∷ ks) = mode_sorts-Input ks

pub mode_sorts-Output : (ks : List Kind) → sorts_of mode.Output ks ≡ outputs_of ks (plain_sorts ks)
mode_sorts-Output [] = refl
mode_sorts-Output (Term t ∷ ks) = mode_sorts-Output ks
mode_sorts-Output (Input s ∷ ks) = mode_sorts-Output ks
mode_sorts-Output (Output s ∷ ks) = ap (λ ss. s ∷ ss) (mode_sorts-Output ks)

-- the sorts of inputs and of outputs
pub ruleset mode_sorts = (mode_sorts-Input, mode_sorts-Output)

-- a parameter of another mode
pub other_step : (test : Expr → Sort → Bool) (m : Mode) (k : Kind) (rest : List Expr) (ks more : List Kind) (whole : Bool) →
    ks ≡ k ∷ more → sort_in_mode m k ≡ None → pointwise test rest (sorts_of m ks) ≡ whole → pointwise test rest (sorts_of m more) ≡ whole
other_step test m k rest ks more whole e none h =
    ap (λ o. pointwise test rest (cons_option o (sorts_of m more))) (sym none) ∙ ap (λ all. pointwise test rest (sorts_of m all)) (sym e) ∙ h

-- an argument that passes the test
pub argument_step : (test : Expr → Sort → Bool) (m : Mode) (k : Kind) (sort : Sort) (x : Expr) (xs rest : List Expr) (ks more : List Kind) (whole : Bool) →
    ks ≡ k ∷ more → sort_in_mode m k ≡ Some sort → rest ≡ x ∷ xs → test x sort ≡ true →
    pointwise test rest (sorts_of m ks) ≡ whole → pointwise test xs (sorts_of m more) ≡ whole
argument_step test m k sort x xs rest ks more whole e is r t h =
    ap (λ b. b && pointwise test xs (sorts_of m more)) (sym t) ∙ ap (λ o. pointwise test (x ∷ xs) (cons_option o (sorts_of m more))) (sym is)
    ∙ ap₂ (λ es all. pointwise test es (sorts_of m all)) (sym r) (sym e) ∙ h
