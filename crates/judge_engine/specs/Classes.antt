-- PROMISES a-verdict-by-any-order-is-right: class_of, suffix_of
-- The class of a cycle, by Adya's names.
use Rattle.std.specs.Prelude.{◌==◌, ◌&&◌, Bool, true, false, List, [], ◌∷◌, count_by, nat_eq, if◌then◌else◌, ℕ, codes}
use Rattle.std.specs.List.{list_any}
use Rattle.std.specs.Option.{option_eq}
use Rattle.order_check.specs.declared.edge.Edge.{Edge}
use Rattle.order_check.specs.declared.edge.Kind.{Kind}
use Rattle.order_check.specs.declared.edge.Kind.TheVariants.{Read, Replaced, Began}
use Rattle.judge_engine.specs.declared.class.Class.{Class}
use Rattle.judge_engine.specs.declared.class.Class.TheVariants.{LostUpdate, G1c, GSingle, G2Item}

-- Whether edges of this kind are anti-dependencies: the second transaction replaced what the first
-- one read.
abbrev pub is_anti : Kind → Bool
is_anti Read = false
is_anti Replaced = true
is_anti Began = false

-- Whether edges of this kind are those of real time.
abbrev pub is_time : Kind → Bool
is_time Read = false
is_time Replaced = false
is_time Began = true

-- Two transactions read one value of one key, and each replaced it.
abbrev pub is_lost_update : List Edge → Bool
is_lost_update (a ∷ b ∷ []) =
    ((is_anti a.kind && is_anti b.kind) && a.key == b.key) && option_eq nat_eq a.value b.value
is_lost_update edges = false

-- The class of a cycle of edges: a lost update, or else by the number of anti-dependencies.
abbrev pub class_of : List Edge → Class
class_of edges =
    let antis = count_by (λ edge. is_anti edge.kind) edges in
    if is_lost_update edges then LostUpdate
    else if antis == 0 then G1c
    else if antis == 1 then GSingle
    else G2Item

-- The name of a class.
abbrev pub class_words : Class → List ℕ
class_words LostUpdate = codes "lost update"
class_words G1c = codes "G1c"
class_words GSingle = codes "G-single"
class_words G2Item = codes "G2-item"

-- What follows the name of the class of a cycle, if an edge is one of real time.
abbrev pub time_suffix : Bool → List ℕ
time_suffix in_time = if in_time then codes "-realtime" else []

abbrev pub suffix_of : List Edge → List ℕ
suffix_of edges = time_suffix (list_any (λ edge. is_time edge.kind) edges)
