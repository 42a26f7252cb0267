-- A signature to which what fits is added stays well formed.
use Rattle.std.proofs.Common.{ℕ, List, [], ◌∷◌, ◌++◌, map, length, sym, subst, append_assoc}
use Rattle.std.specs.List.{flat_map, enumerate_from}
use Rattle.std.proofs.lemmas.List.{append-nil}
use Rattle.sig_core.specs.declared.signature.Constructor.{Constructor}
use Rattle.sig_core.specs.declared.signature.Relation.{Relation}
use Rattle.sig_core.specs.Refusals.{with_constructor, with_relation, with_type}
use Rattle.sig_core.specs.Signatures.{Declarations}
use Rattle.sig_core.specs.WellFormed.{IsWellFormed}
use Rattle.sig_core.proofs.SignatureLemmas.{IsWellFormed-with_type, IsWellFormed-with_constructor, IsWellFormed-with_relation}
use Rattle.sexpr_core.specs.declared.form.Sexpr.{Sexpr}
use Rattle.syntax_core.specs.declared.syntax.Function.{Function}
use Rattle.syntax_core.specs.Syntax.{items_at, type_names}
use Rattle.name_core.specs.Names.{texts}
use Rattle.sort_core.specs.Relations.{declared_with, relation_of}
use Rattle.making_core.specs.Fitting.{ConstructorsFit, RelationsFit, TermsFit, TypesFit}
use Rattle.making_core.specs.Making.{constructors_of, with_terms, with_types}

types_formed : (sig : Declarations) (names : List (List ℕ)) → IsWellFormed sig → TypesFit sig names → IsWellFormed (record sig { types = sig.types ++ names })
types_formed sig [] well fit = subst (λ (ts : List (List ℕ)). IsWellFormed (record sig { types = ts })) (sym (append-nil sig.types)) well
types_formed sig (name ∷ names) well fit =
    subst (λ (ts : List (List ℕ)). IsWellFormed (record sig { types = ts })) (append_assoc sig.types (name ∷ []) names)
    (types_formed (with_type sig name) names (IsWellFormed-with_type sig name well fit.0) fit.1)

constructors_formed : (sig : Declarations) (cons : List Constructor) → IsWellFormed sig → ConstructorsFit sig cons → IsWellFormed (record sig { constructors = sig.constructors ++ cons })
constructors_formed sig [] well fit = subst (λ (cs : List Constructor). IsWellFormed (record sig { constructors = cs })) (sym (append-nil sig.constructors)) well
constructors_formed sig (con ∷ cons) well fit =
    subst (λ (cs : List Constructor). IsWellFormed (record sig { constructors = cs })) (append_assoc sig.constructors (con ∷ []) cons)
    (constructors_formed (with_constructor sig con) cons (IsWellFormed-with_constructor sig con well fit.0.accepted (record { owner = fit.0.owner; args = fit.0.args }) fit.0.rising) fit.1)

relations_formed : (sig : Declarations) (relations : List Relation) → IsWellFormed sig → RelationsFit sig relations → IsWellFormed (record sig { relations = sig.relations ++ relations })
relations_formed sig [] well fit = subst (λ (rs : List Relation). IsWellFormed (record sig { relations = rs })) (sym (append-nil sig.relations)) well
relations_formed sig (relation ∷ relations) well fit =
    subst (λ (rs : List Relation). IsWellFormed (record sig { relations = rs })) (append_assoc sig.relations (relation ∷ []) relations)
    (relations_formed (with_relation sig relation) relations (IsWellFormed-with_relation sig relation well fit.0.accepted fit.0.fine) fit.1)

pub terms_formed : (sig : Declarations) (form : Sexpr) → IsWellFormed sig → TermsFit sig form → IsWellFormed (with_terms sig form)
terms_formed sig form well fit =
    constructors_formed (with_types sig form) (flat_map (constructors_of (with_types sig form)) (enumerate_from (length sig.types) (items_at 2 form)))
    (types_formed sig (texts (type_names form)) well fit.types) fit.constructors

pub functions_formed : (sig : Declarations) (functions : List Function) → IsWellFormed sig → RelationsFit sig (map (relation_of sig) functions) → IsWellFormed (declared_with sig functions)
functions_formed sig functions well fit = relations_formed sig (map (relation_of sig) functions) well fit
