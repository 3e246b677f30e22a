-- The design of the soak keeps F14: no port of it reads itself, at once or over others. This project's.
use Rattle.std.proofs.Common.{◌≡◌, ℕ, zero, suc, ◌<◌, ◌≤◌, Bool, true, false, cond, List, [], ◌∷◌, take, get_or, codes, Option, None, Some, refl, sym, ap, subst, ◌∙◌, arith, inl, inr, All}
use Rattle.std.specs.Prelude.{bytes_eq, Contains, option_map, slice_get}
use Rattle.std.specs.List.{AllByRecursion, AllZip, list_any}
use Rattle.std.proofs.lemmas.List.Elements.{All-contains, All-from_recursion}
use Rattle.std.proofs.lemmas.Option.{same_Some}
use Rattle.hw_names.specs.Name.{Text, dotted}
use Rattle.hw_prims.specs.Meaning.{is_through}
use Rattle.hw_prims.specs.Table.{is_made, prim_names, prim_of, with_params}
use Rattle.hw_prims.specs.declared.prim.Primitive.{Primitive}
use Rattle.hw_prims.specs.declared.prim.Primitive.TheVariants.{FilDelay, FilFastMult}
use Rattle.fil_ast.specs.Rules.{FilRules}
use Rattle.fil_ast.specs.Scope.{Instance, Invocation, Scope, instance_signature, invocation_named}
use Rattle.fil_ast.specs.Signature.{SigPort, Signature}
use Rattle.fil_ast.specs.Tree.{Call, Component, Connect, Design, InputValue, Literal, New, OutputValue, Statement, ValueTree}
use Rattle.fil_ast.specs.Wires.{Straight, ByArgument, ByConnection, ByInstance, ByInvocation, DependsWithin, HasNoLoop, IsPortOf, OfComponent, OfPrimitive, Over, OwnInput, Reaches, ReadsAlong, ReadsPort, through_before, whole_scope}
use Rattle.filc_run.specs.Soaked.{out_of, soak, soak_design, step}
use Rattle.filc_run.proofs.SoakDesignLemmas.{add_means, add_sig, delay_means, delay_sig, first_at, mult_at, mult_means, mult_sig, second_at, soak_design_keeps, stage_args, stage_at, step_sig, sum_at}
use Rattle.filc_run.proofs.SoakRuleLemmas.{zip_at}

-- ---- levels

-- ports at a lower level than those that read them make no loop
module _ (earlier : Design) (c : Component) (level : Text → ℕ) (falls : (port other : Text) → ReadsPort (through_before earlier) (whole_scope earlier c) port other → level other < level port) where
  along : (first : Text) (others : List Text) (back : Text) → ReadsAlong earlier c (first ∷ others) back → level back < level first
  along first [] back reads = falls first back reads
  along first (next ∷ others) back reads =
      let one = falls first next reads.0 in let more = along next others back reads.1 in omega (arith, one, more)

  no_loop : HasNoLoop earlier c
  no_loop = λ first others loop. absurd (let less = along first others first loop.along in omega (arith, less))

-- ---- reads

-- the port that a value is read from
abbrev read_of : Scope → ValueTree → Option Text
read_of scope (InputValue name) = Some name
read_of scope (OutputValue name port) = option_map (λ (v : Invocation). dotted v.inst port) (invocation_named scope.invocations name)
read_of scope (Literal width value) = None

read_is : (scope : Scope) (value : ValueTree) (other : Text) → IsPortOf scope value other → read_of scope value ≡ Some other
read_is scope value other (OwnInput name) = refl
read_is scope value other (ByInvocation name port v is) = ap (option_map (λ (w : Invocation). dotted w.inst port)) is

-- what holds of a port and each that it reads, holds where it holds at each argument, at each connection and at each instance
module _ (through : Text → Text → Text → Type 0) (scope : Scope) (P : Text → Text → Type 0) where
  abbrev pub HoldsOf : Text → ValueTree → Type 0
  HoldsOf port value = (other : Text) → read_of scope value ≡ Some other → P port other

  abbrev pub HoldsOfArguments : Invocation → Type 0
  HoldsOfArguments v = (sig : Signature) → instance_signature scope v.inst ≡ Some sig → AllZip (λ (arg : ValueTree) (input : SigPort). HoldsOf (dotted v.inst input.name) arg) v.gives.args sig.ins

  abbrev pub HoldsOfConnection : Statement → Type 0
  HoldsOfConnection s = (port : Text) (value : ValueTree) → s ≡ Connect port value → HoldsOf port value

  abbrev pub HoldsOfInstance : Instance → Type 0
  HoldsOfInstance i =
      (sig : Signature) → instance_signature scope i.name ≡ Some sig → (input output : SigPort) → Contains sig.ins input → Contains sig.outs output → DependsWithin through i output.name input.name → P (dotted i.name output.name) (dotted i.name input.name)

  pub holds_of_reads : All HoldsOfArguments scope.invocations → All HoldsOfConnection scope.comp.body → All HoldsOfInstance scope.instances → (port other : Text) → ReadsPort through scope port other → P port other
  holds_of_reads arguments connections instances port other (ByArgument r) =
      let v = r.invocation in
      let each = All-contains HoldsOfArguments scope.invocations v arguments r.invoked r.signature r.signed in
      subst (λ (p : Text). P p other) r.is_port
      (zip_at (λ (a : ValueTree) (i : SigPort). HoldsOf (dotted v.inst i.name) a) v.gives.args r.signature.ins each r.place r.value r.input r.given r.taken other (read_is scope r.value other r.is_other))
  holds_of_reads arguments connections instances port other (ByConnection r) =
      All-contains HoldsOfConnection scope.comp.body (Connect port r.value) connections r.connected port r.value refl other (read_is scope r.value other r.is_other)
  holds_of_reads arguments connections instances port other (ByInstance r) =
      let i = r.instance in
      subst (λ (p : Text). P p other) r.is_port
      (subst (P (dotted i.name r.output.name)) r.is_other (All-contains HoldsOfInstance scope.instances i instances r.has r.signature r.signed r.input r.output r.has_input r.has_output r.depends))

-- ---- the first component

abbrev no_through : Text → Text → Text → Type 0
no_through = through_before []

abbrev scope : Scope
scope = whole_scope [] step

abbrev level_in : List (Text × ℕ) → Text → ℕ
level_in [] port = 0
level_in ((name, level) ∷ levels) port = cond (bytes_eq name port) level (level_in levels port)

-- from 4 on stand the ports on which the output depends within a row
abbrev step_level : Text → ℕ
step_level =
    level_in (
    (codes "out", 7)
    ∷ (codes "A.out", 6)
    ∷ (codes "A.left", 5)
    ∷ (codes "A.right", 5)
    ∷ (codes "M.out", 4)
    ∷ (codes "D2.out", 4)
    ∷ (codes "D2.in", 3)
    ∷ (codes "D1.out", 2)
    ∷ (codes "D1.in", 1)
    ∷ (codes "M.left", 1)
    ∷ (codes "M.right", 1)
    ∷ [])

abbrev IsBelow : Text → Text → Type 0
IsBelow port other = (step_level other < step_level port) × (4 ≤ step_level port → 4 ≤ step_level other)

-- a port reads the one of this name alone
reads_one : (port name : Text) → IsBelow port name → (other : Text) → Some name ≡ Some other → IsBelow port other
reads_one port name below other is = subst (IsBelow port) (same_Some name other is) below

-- what an invocation's arguments read, where this is its callee's signature
of_callee : (v : Invocation) (known : Signature) → instance_signature scope v.inst ≡ Some known → AllZip (λ (arg : ValueTree) (input : SigPort). HoldsOf no_through scope IsBelow (dotted v.inst input.name) arg) v.gives.args known.ins
    → HoldsOfArguments no_through scope IsBelow v
of_callee v known is reads sig means =
    subst (λ (s : Signature). AllZip (λ (arg : ValueTree) (input : SigPort). HoldsOf no_through scope IsBelow (dotted v.inst input.name) arg) v.gives.args s.ins) (same_Some known sig (sym is ∙ means)) reads

step_arguments : AllByRecursion (HoldsOfArguments no_through scope IsBelow) scope.invocations
step_arguments = (
  of_callee mult_at mult_sig (mult_means [])
      (reads_one (codes "M.left") (codes "a") (omega arith, λ high. omega arith), (reads_one (codes "M.right") (codes "b") (omega arith, λ high. omega arith), tt)),
  (
    of_callee first_at delay_sig (delay_means []) (reads_one (codes "D1.in") (codes "c") (omega arith, λ high. omega arith), tt),
    (
      of_callee second_at delay_sig (delay_means []) (reads_one (codes "D2.in") (codes "D1.out") (omega arith, λ high. omega arith), tt),
      (
        of_callee sum_at add_sig (add_means [])
            (reads_one (codes "A.left") (codes "M.out") (omega arith, λ high. omega arith), (reads_one (codes "A.right") (codes "D2.out") (omega arith, λ high. omega arith), tt)),
        tt,
      ),
    ),
  ),
)

-- the port and the value of a connection
abbrev port_of : Statement → Text
port_of (Connect port value) = port
port_of s = []

abbrev value_of : Statement → ValueTree
value_of (Connect port value) = value
value_of s = Literal 0 0

abbrev connects : Statement → Bool
connects (Connect port value) = true
connects s = false

no_connection : (s : Statement) → connects s ≡ false → HoldsOfConnection no_through scope IsBelow s
no_connection s none port value is = absurd (let some : connects s ≡ true = ap connects is in cc (some, none))

step_connection : HoldsOfConnection no_through scope IsBelow (Connect (codes "out") (out_of (codes "s")))
step_connection port value is other =
    subst (λ (s : Statement). read_of scope (value_of s) ≡ Some other → IsBelow (port_of s) other) is (reads_one (codes "out") (codes "A.out") (omega arith, λ high. omega arith) other)

step_connections : AllByRecursion (HoldsOfConnection no_through scope IsBelow) step.body
step_connections =
    let none = no_connection in (
      none (New (codes "M") (codes "FastMult") (32 ∷ [])) refl,
      (
        none (New (codes "D1") (codes "Delay") (32 ∷ [])) refl,
        (
          none (New (codes "D2") (codes "Delay") (32 ∷ [])) refl,
          (
            none (New (codes "A") (codes "Add") (32 ∷ [])) refl,
            (
              none (Call (codes "p") (codes "M") mult_at.gives) refl,
              (
                none (Call (codes "c1") (codes "D1") first_at.gives) refl,
                (
                  none (Call (codes "c2") (codes "D2") second_at.gives) refl,
                  (none (Call (codes "s") (codes "A") sum_at.gives) refl, (step_connection, tt)),
                ),
              ),
            ),
          ),
        ),
      ),
    )

abbrev made_of : Text → Text → Instance
made_of name made = record { name = name; made = made; params = 32 ∷ [] }

mult_apart : (name : Text) (output input : Text) → DependsWithin no_through (made_of name (codes "FastMult")) output input → ⊥
unfolding prim_of prim_names with_params is_made is_through
mult_apart name output input (OfPrimitive prim is through) =
    let same : FilFastMult 32 ≡ prim = same_Some (FilFastMult 32) prim is in
    let none : false ≡ true = ap (λ (q : Primitive). is_through q input output) same ∙ through in cc none
mult_apart name output input (OfComponent through) = through

delay_apart : (name : Text) (output input : Text) → DependsWithin no_through (made_of name (codes "Delay")) output input → ⊥
unfolding prim_of prim_names with_params is_made is_through
delay_apart name output input (OfPrimitive prim is through) =
    let same : FilDelay 32 ≡ prim = same_Some (FilDelay 32) prim is in
    let none : false ≡ true = ap (λ (q : Primitive). is_through q input output) same ∙ through in cc none
delay_apart name output input (OfComponent through) = through

add_below : (input output : SigPort) → Contains add_sig.ins input → Contains add_sig.outs output → IsBelow (dotted (codes "A") output.name) (dotted (codes "A") input.name)
add_below input output (k, within, is) (zero, one, is_out) =
    subst (λ (p : SigPort). IsBelow (dotted (codes "A") p.name) (dotted (codes "A") input.name)) is_out (by k within is)
  where
    by : (k : ℕ) → k < 2 → get_or add_sig.ins k input ≡ input → IsBelow (codes "A.out") (dotted (codes "A") input.name)
    by zero within is = subst (λ (p : SigPort). IsBelow (codes "A.out") (dotted (codes "A") p.name)) is (omega arith, λ high. omega arith)
    by (suc zero) within is = subst (λ (p : SigPort). IsBelow (codes "A.out") (dotted (codes "A") p.name)) is (omega arith, λ high. omega arith)
    by (suc (suc k)) within is = absurd (omega arith)
add_below input output ins (suc k, within, is_out) = absurd (omega arith)

step_instances : AllByRecursion (HoldsOfInstance no_through scope IsBelow) scope.instances
step_instances = (
  λ sig means input output ins outs depends. absurd (mult_apart (codes "M") output.name input.name depends),
  (
    λ sig means input output ins outs depends. absurd (delay_apart (codes "D1") output.name input.name depends),
    (
      λ sig means input output ins outs depends. absurd (delay_apart (codes "D2") output.name input.name depends),
      (
        λ sig means input output ins outs depends.
            let same = same_Some add_sig sig (sym (add_means []) ∙ means) in
            add_below input output (subst (λ (s : Signature). Contains s.ins input) (sym same) ins) (subst (λ (s : Signature). Contains s.outs output) (sym same) outs),
        tt,
      ),
    ),
  ),
)

step_falls : (port other : Text) → ReadsPort no_through scope port other → IsBelow port other
step_falls =
    holds_of_reads no_through scope IsBelow (All-from_recursion (HoldsOfArguments no_through scope IsBelow) scope.invocations step_arguments)
    (All-from_recursion (HoldsOfConnection no_through scope IsBelow) step.body step_connections) (All-from_recursion (HoldsOfInstance no_through scope IsBelow) scope.instances step_instances)

step_has_no_loop : HasNoLoop [] step
step_has_no_loop = no_loop [] step step_level (λ port other reads. (step_falls port other reads).0)

-- its output depends on none of its inputs within a row
stays_high : (other port : Text) → Reaches no_through scope other port → 4 ≤ step_level port → 4 ≤ step_level other
stays_high other port (Straight top reads) high = (step_falls top other reads).1 high
stays_high other port (Over top between reads more) high = stays_high other between more ((step_falls top between reads).1 high)

-- ---- the second component

abbrev by_step : Text → Text → Text → Type 0
by_step = through_before (step ∷ [])

abbrev soak_scope : Scope
soak_scope = whole_scope (step ∷ []) soak

-- arguments and the output read, and nothing reads them
abbrev readers : List Text
readers =
    codes "out" ∷ codes "s0.a" ∷ codes "s1.a" ∷ codes "s2.a" ∷ codes "s3.a" ∷ codes "s4.a" ∷ codes "s5.a" ∷ codes "s6.a" ∷ codes "s7.a" ∷ []

abbrev soak_level : Text → ℕ
soak_level port = cond (list_any (bytes_eq port) readers) 1 0

abbrev IsLower : Text → Text → Type 0
IsLower port other = soak_level other < soak_level port

stage_reads : (name : Text) (j : ℕ) (value : ValueTree) (from : Text) → instance_signature soak_scope name ≡ Some step_sig → read_of soak_scope value ≡ Some from → IsLower (dotted name (codes "a")) from → HoldsOfArguments by_step soak_scope IsLower (stage_at name j value)
stage_reads name j value from is reads lower sig means =
    subst (λ (s : Signature). AllZip (λ (arg : ValueTree) (input : SigPort). HoldsOf by_step soak_scope IsLower (dotted name input.name) arg) (stage_args j value) s.ins) (same_Some step_sig sig (sym is ∙ means)) (
      λ other at. subst (IsLower (dotted name (codes "a"))) (same_Some from other (sym reads ∙ at)) lower,
      (λ other at. absurd (let none : ◌≡◌ {A = Option Text} None (Some other) = at in cc none), (λ other at. absurd (let none : ◌≡◌ {A = Option Text} None (Some other) = at in cc none), tt)),
    )

soak_arguments : AllByRecursion (HoldsOfArguments by_step soak_scope IsLower) soak_scope.invocations
soak_arguments = (
  stage_reads (codes "s0") 0 (InputValue (codes "a")) (codes "a") refl refl (omega arith),
  (
    stage_reads (codes "s1") 1 (out_of (codes "s0")) (codes "s0.out") refl refl (omega arith),
    (
      stage_reads (codes "s2") 2 (out_of (codes "s1")) (codes "s1.out") refl refl (omega arith),
      (
        stage_reads (codes "s3") 3 (out_of (codes "s2")) (codes "s2.out") refl refl (omega arith),
        (
          stage_reads (codes "s4") 4 (out_of (codes "s3")) (codes "s3.out") refl refl (omega arith),
          (
            stage_reads (codes "s5") 5 (out_of (codes "s4")) (codes "s4.out") refl refl (omega arith),
            (
              stage_reads (codes "s6") 6 (out_of (codes "s5")) (codes "s5.out") refl refl (omega arith),
              (stage_reads (codes "s7") 7 (out_of (codes "s6")) (codes "s6.out") refl refl (omega arith), tt),
            ),
          ),
        ),
      ),
    ),
  ),
)

no_soak_connection : (s : Statement) → connects s ≡ false → HoldsOfConnection by_step soak_scope IsLower s
no_soak_connection s none port value is = absurd (let some : connects s ≡ true = ap connects is in cc (some, none))

soak_connection : HoldsOfConnection by_step soak_scope IsLower (Connect (codes "out") (out_of (codes "s7")))
soak_connection port value is other =
    subst (λ (s : Statement). read_of soak_scope (value_of s) ≡ Some other → IsLower (port_of s) other) is
    (λ at. subst (IsLower (codes "out")) (same_Some (codes "s7.out") other at) (omega arith))

soak_connections : (k : ℕ) (d : Statement) → k < 9 → HoldsOfConnection by_step soak_scope IsLower (get_or soak.body k d)
soak_connections zero d within = no_soak_connection (get_or soak.body 0 d) refl
soak_connections (suc zero) d within = no_soak_connection (get_or soak.body 1 d) refl
soak_connections (suc (suc zero)) d within = no_soak_connection (get_or soak.body 2 d) refl
soak_connections (suc (suc (suc zero))) d within = no_soak_connection (get_or soak.body 3 d) refl
soak_connections (suc (suc (suc (suc zero)))) d within = no_soak_connection (get_or soak.body 4 d) refl
soak_connections (suc (suc (suc (suc (suc zero))))) d within = no_soak_connection (get_or soak.body 5 d) refl
soak_connections (suc (suc (suc (suc (suc (suc zero)))))) d within = no_soak_connection (get_or soak.body 6 d) refl
soak_connections (suc (suc (suc (suc (suc (suc (suc zero))))))) d within = no_soak_connection (get_or soak.body 7 d) refl
soak_connections (suc (suc (suc (suc (suc (suc (suc (suc zero)))))))) d within = soak_connection
soak_connections (suc (suc (suc (suc (suc (suc (suc (suc (suc k))))))))) d within = absurd (omega arith)

abbrev step_named : Text → Instance
step_named name = record { name = name; made = codes "Step"; params = [] }

step_apart : (name : Text) (input output : SigPort) → Contains step_sig.ins input → Contains step_sig.outs output → DependsWithin by_step (step_named name) output.name input.name → ⊥
step_apart name input output ins outs (OfPrimitive prim is through) = let none : ◌≡◌ {A = Option Primitive} None (Some prim) = is in cc none
step_apart name input output (k, within, is) (zero, one, is_out) (OfComponent (inl through)) =
    let high : 4 ≤ step_level output.name = subst (λ (p : SigPort). 4 ≤ step_level p.name) is_out (omega arith) in
    low k within is (stays_high input.name output.name through.1 high)
  where
    low : (k : ℕ) → k < 3 → get_or step_sig.ins k input ≡ input → 4 ≤ step_level input.name → ⊥
    low zero within is high = let least : 0 ≡ step_level input.name = ap (λ (p : SigPort). step_level p.name) is in omega (arith, least, high)
    low (suc zero) within is high = let least : 0 ≡ step_level input.name = ap (λ (p : SigPort). step_level p.name) is in omega (arith, least, high)
    low (suc (suc zero)) within is high = let least : 0 ≡ step_level input.name = ap (λ (p : SigPort). step_level p.name) is in omega (arith, least, high)
    low (suc (suc (suc k))) within is high = omega arith
step_apart name input output ins (suc k, within, is_out) (OfComponent (inl through)) = absurd (omega arith)
step_apart name input output ins outs (OfComponent (inr none)) = none

stage_apart : (name : Text) → instance_signature soak_scope name ≡ Some step_sig → HoldsOfInstance by_step soak_scope IsLower (step_named name)
stage_apart name is sig means input output ins outs depends =
    let same = same_Some step_sig sig (sym is ∙ means) in
    absurd (step_apart name input output (subst (λ (s : Signature). Contains s.ins input) (sym same) ins) (subst (λ (s : Signature). Contains s.outs output) (sym same) outs) depends)

soak_instances : AllByRecursion (HoldsOfInstance by_step soak_scope IsLower) soak_scope.instances
soak_instances = (
  stage_apart (codes "s0") refl,
  (
    stage_apart (codes "s1") refl,
    (
      stage_apart (codes "s2") refl,
      (stage_apart (codes "s3") refl, (stage_apart (codes "s4") refl, (stage_apart (codes "s5") refl, (stage_apart (codes "s6") refl, (stage_apart (codes "s7") refl, tt))))),
    ),
  ),
)

soak_falls : (port other : Text) → ReadsPort by_step soak_scope port other → IsLower port other
soak_falls =
    holds_of_reads by_step soak_scope IsLower (All-from_recursion (HoldsOfArguments by_step soak_scope IsLower) soak_scope.invocations soak_arguments) soak_connections
    (All-from_recursion (HoldsOfInstance by_step soak_scope IsLower) soak_scope.instances soak_instances)

soak_has_no_loop : HasNoLoop (step ∷ []) soak
soak_has_no_loop = no_loop (step ∷ []) soak soak_level soak_falls

-- ---- the design

loopless : (n : ℕ) (c : Component) → slice_get soak_design n ≡ Some c → HasNoLoop (take n soak_design) c
loopless zero c at = subst (HasNoLoop []) (same_Some step c at) step_has_no_loop
loopless (suc zero) c at = subst (HasNoLoop (step ∷ [])) (same_Some soak c at) soak_has_no_loop
loopless (suc (suc n)) c at = absurd (let none : ◌≡◌ {A = Option Component} None (Some c) = at in cc none)

pub soak_rules : FilRules soak_design
soak_rules = record { keeps = soak_design_keeps; no_loop = loopless }
