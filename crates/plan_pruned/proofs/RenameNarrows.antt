-- A renaming over an input that narrows at what it asks.
use Rattle.std.proofs.Common.{◌≡◌, suc, Bool, true, false, cond, List, [], ◌∷◌, ◌++◌, map, length, Option, Some, None, is_some, refl, sym, ap, ◌∙◌, subst, ⊎_elim}
use Rattle.std.specs.List.{filter_map, cons_option}
use Rattle.std.specs.Str.{bytes_eq}
use Rattle.plan_core.specs.declared.data_type.DataType.{DataType}
use Rattle.plan_core.specs.declared.error.PolarsError.TheVariants.{Duplicate}
use Rattle.plan_core.specs.Columns.{Columns, names_of, type_of}
use Rattle.plan_core.specs.Names.{has}
use Rattle.plan_ir.specs.declared.functions.FunctionIR.TheVariants.{Rename}
use Rattle.plan_expr.specs.Leaves.{Name}
use Rattle.plan_meaning.specs.Functions.{renamed, former, stay_apart, function_schema}
use Rattle.plan_frame.specs.Reshaped.{renamed_columns}
use Rattle.plan_meaning.specs.Contents.{Contents}
use Rattle.plan_meaning.specs.Mapped.{mapped}
use Rattle.plan_meaning.specs.Checks.{Check, check, each_new}
use Rattle.plan_meaning.specs.Typing.{function_checks, rename_checks, AllHold}
use Rattle.plan_frame.specs.Frames.{Column, Frame, HasSchema, found, column_names, Agree}
use Rattle.plan_meaning.specs.Relating.{Holding}
use Rattle.plan_meaning.specs.Asked.{function_names, Fair}
use Rattle.plan_frame.proofs.NameSets.{named, same_named, has_cons, has_first, has_later, some-type_of}
use Rattle.plan_meaning.proofs.CheckParts.{hold_front, hold_back, hold_join}
use Rattle.plan_schema.proofs.RenameLemmas.{apart_one, fewer_apart, names-renamed, type-renamed, from_renamed, to_renamed}
use Rattle.plan_pruned.proofs.FunctionParts.{FunctionKept}
use Rattle.plan_frame.proofs.BesideLemmas.{names-are}

-- the name that becomes one, by what it becomes

former_at : (now : Name → Name) (b c : Name) (names : List Name) → (now c ≡ now b → c ≡ b) → (has names b ≡ true → former now names (now b) ≡ Some b) → has (c ∷ names) b ≡ true → former now (c ∷ names) (now b) ≡ Some b
former_at now b c names one r i = at (bytes_eq (now b) (now c)) refl
  where
    other : bytes_eq (now b) (now c) ≡ false → b ≡ c → has names b ≡ true
    other e q = let x : bytes_eq (now b) (now c) ≡ true = ap (λ (x : Name). bytes_eq (now x) (now c)) q ∙ same_named (now c) in cc

    at : (t : Bool) → bytes_eq (now b) (now c) ≡ t → cond t (Some c) (former now names (now b)) ≡ Some b
    at true e = ap (λ (x : Name). Some x) (one (sym (named (now b) (now c) e)))
    at false e = r (⊎_elim (λ (q : b ≡ c). other e q) (λ k. k) (has_cons c names b i))

former-by : (now : Name → Name) (b : Name) (names : List Name) → ((c : Name) → has names c ≡ true → now c ≡ now b → c ≡ b) → has names b ≡ true → former now names (now b) ≡ Some b
former-by now b [] one i = cc
former-by now b (c ∷ names) one i = former_at now b c names (λ q. one c (has_first c names) q) (λ k. former-by now b names (λ d j q. one d (has_later c names d j) q) k) i

-- a name is needed where what it becomes is asked
needed_at : (now : Name → Name) (names wanted : List Name) (a b : Name) (o : Option Name) → former now names a ≡ o → (has wanted (now b) ≡ true → has (filter_map (former now names) wanted) b ≡ true) → (now b ≡ a → o ≡ Some b) → has (a ∷ wanted) (now b) ≡ true → has (cons_option o (filter_map (former now names) wanted)) b ≡ true
needed_at now names wanted a b None e r own i = ⊎_elim (λ (q : now b ≡ a). none (own q)) r (has_cons a wanted (now b) i)
  where
    none : None ≡ Some b → has (filter_map (former now names) wanted) b ≡ true
    none q = cc
needed_at now names wanted a b (Some c) e r own i = ⊎_elim
    (λ (q : now b ≡ a). subst (λ (x : Name). has (x ∷ filter_map (former now names) wanted) b ≡ true) (sym (is (own q))) (has_first b (filter_map (former now names) wanted)))
    (λ k. has_later c (filter_map (former now names) wanted) b (r k))
    (has_cons a wanted (now b) i)
  where
    is : Some c ≡ Some b → c ≡ b
    is q = cc

needed-by : (now : Name → Name) (names wanted : List Name) (b : Name) → former now names (now b) ≡ Some b → has wanted (now b) ≡ true → has (filter_map (former now names) wanted) b ≡ true
needed-by now names [] b e i = cc
needed-by now names (a ∷ wanted) b e i = needed_at now names wanted a b (former now names a) refl (λ k. needed-by now names wanted b e k) (λ q. ap (former now names) (sym q) ∙ e) i

-- a column under its new name

abbrev under : (Name → Name) → List Column → List Column
under now cs = map (λ (c : Column). record { name = now c.name; values = c.values }) cs

found_at : (now : Name → Name) (b : Name) (c : Column) (cs : List Column) → (now c.name ≡ now b → c.name ≡ b) → found (under now cs) (now b) ≡ found cs b → found (under now (c ∷ cs)) (now b) ≡ found (c ∷ cs) b
found_at now b c cs one r = at (bytes_eq b c.name) refl
  where
    later : bytes_eq b c.name ≡ false → (u : Bool) → bytes_eq (now b) (now c.name) ≡ u → cond u (Some c.values) (found (under now cs) (now b)) ≡ found cs b
    later t true u =
        let q : c.name ≡ b = one (sym (named (now b) (now c.name) u)) in
        let x : bytes_eq b c.name ≡ true = ap (bytes_eq b) q ∙ same_named b in
        cc
    later t false u = r

    at : (t : Bool) → bytes_eq b c.name ≡ t → cond (bytes_eq (now b) (now c.name)) (Some c.values) (found (under now cs) (now b)) ≡ cond t (Some c.values) (found cs b)
    at true t = ap (λ (x : Bool). cond x (Some c.values) (found (under now cs) (now b))) (ap (λ (x : Name). bytes_eq (now x) (now c.name)) (named b c.name t) ∙ same_named (now c.name))
    at false t = later t (bytes_eq (now b) (now c.name)) refl

found-renamed : (now : Name → Name) (b : Name) (cs : List Column) → ((c : Name) → has (column_names cs) c ≡ true → now c ≡ now b → c ≡ b) → found (under now cs) (now b) ≡ found cs b
found-renamed now b [] one = refl
found-renamed now b (c ∷ cs) one = found_at now b c cs (λ q. one c.name (has_first c.name (column_names cs)) q) (found-renamed now b cs (λ d j q. one d (has_later c.name (column_names cs) d j) q))

module _ (existing new : List Name) (swapping : Bool) (wanted : List Name) (r s : Columns) (good : AllHold (function_checks (Rename existing new swapping) s)) (fair : Fair wanted (function_schema (Rename existing new swapping) s)) (h : Holding (function_names (Rename existing new swapping) wanted s) r s) where
  abbrev now : Name → Name
  now = renamed existing new

  abbrev lists : List Check
  lists = each_new (suc (length existing)) [] new

  abbrev last : Columns → List Check
  last cs = check Duplicate 0 (stay_apart now (names_of cs)) ∷ []

  apart : stay_apart (renamed existing new) (names_of s) ≡ true
  unfolding rename_checks
  apart = (hold_back lists (last s) (hold_back (each_new 1 [] existing) (lists ++ last s) good.1)).0

  left_known : (a : Name) → has (names_of r) a ≡ true → has (names_of s) a ≡ true
  left_known a i = sym (some-type_of s a) ∙ h.within a (some-type_of r a ∙ i)

  left_apart : stay_apart (renamed existing new) (names_of r) ≡ true
  left_apart = fewer_apart now (names_of r) (names_of s) left_known apart

  rename_good : AllHold (function_checks (Rename existing new swapping) r)
  unfolding rename_checks
  rename_good =
      let rest = hold_back (each_new 1 [] existing) (lists ++ last s) good.1 in
      (good.0, hold_join (each_new 1 [] existing) (lists ++ last r) (hold_front (each_new 1 [] existing) (lists ++ last s) good.1) (hold_join lists (last r) (hold_front lists (last s) rest) (left_apart, tt)))

  -- an asked name is what one of the needed names becomes
  asked_from : (a : Name) → has wanted a ≡ true → (b : Name) × (has (names_of s) b ≡ true) × (a ≡ now b) × (has (function_names (Rename existing new swapping) wanted s) b ≡ true)
  asked_from a i =
      let there : has (map now (names_of s)) a ≡ true = ap (λ (l : List Name). has l a) (sym (names-renamed now s)) ∙ sym (some-type_of (renamed_columns now s) a) ∙ fair.known a i in
      let b = from_renamed now (names_of s) a there in
      (b.0, b.1, b.2, needed-by now (names_of s) wanted b.0 (former-by now b.0 (names_of s) (λ c j q. apart_one now (names_of s) apart c b.0 j b.1 q) b.1) (ap (has wanted) (sym b.2) ∙ i))

  left_has : (b : Name) → has (function_names (Rename existing new swapping) wanted s) b ≡ true → has (names_of r) b ≡ true
  left_has b i = let t = h.held b i in sym (some-type_of r b) ∙ ap (λ (o : Option DataType). is_some o) t.1

  rename_held : (a : Name) → has wanted a ≡ true → (t : DataType) × (type_of (renamed_columns (renamed existing new) r) a ≡ Some t) × (type_of (renamed_columns (renamed existing new) s) a ≡ Some t)
  rename_held a i =
      let b = asked_from a i in
      let t = h.held b.0 b.3 in (
        t.0,
        ap (type_of (renamed_columns now r)) b.2 ∙ type-renamed now r left_apart b.0 (left_has b.0 b.3) ∙ t.1,
        ap (type_of (renamed_columns now s)) b.2 ∙ type-renamed now s apart b.0 b.1 ∙ t.2,
      )

  rename_within : (a : Name) → is_some (type_of (renamed_columns (renamed existing new) r) a) ≡ true → is_some (type_of (renamed_columns (renamed existing new) s) a) ≡ true
  rename_within a e =
      let b = from_renamed now (names_of r) a (ap (λ (l : List Name). has l a) (sym (names-renamed now r)) ∙ sym (some-type_of (renamed_columns now r) a) ∙ e) in
      some-type_of (renamed_columns now s) a ∙ ap (λ (l : List Name). has l a) (names-renamed now s) ∙ ap (has (map now (names_of s))) b.2 ∙ to_renamed now (names_of s) b.0 (left_known b.0 b.1)

  rename_agrees : (c : Contents) (f0 g0 : Frame) → HasSchema f0 r → HasSchema g0 s → Agree (function_names (Rename existing new swapping) wanted s) f0 g0 → Agree wanted (mapped c (Rename existing new swapping) f0) (mapped c (Rename existing new swapping) g0)
  rename_agrees c f0 g0 hr hs ag = record { height = ag.height; same = λ a i. same a i (asked_from a i) }
    where
      own : (cs : Columns) (f : Frame) → HasSchema f cs → stay_apart now (names_of cs) ≡ true → (b : Name) → has (names_of cs) b ≡ true → found (under now f.columns) (now b) ≡ found f.columns b
      own cs f k e b j = found-renamed now b f.columns (λ c m q. apart_one now (names_of cs) e c b (ap (λ (l : List Name). has l c) (sym (names-are f.height f.columns cs k)) ∙ m) j q)

      same : (a : Name) → has wanted a ≡ true → (b : Name) × (has (names_of s) b ≡ true) × (a ≡ now b) × (has (function_names (Rename existing new swapping) wanted s) b ≡ true) → found (under now f0.columns) a ≡ found (under now g0.columns) a
      same a i b =
          ap (found (under now f0.columns)) b.2
          ∙ own r f0 hr left_apart b.0 (left_has b.0 b.3)
          ∙ ag.same b.0 b.3
          ∙ sym (own s g0 hs apart b.0 b.1)
          ∙ sym (ap (found (under now g0.columns)) b.2)

  pub rename_kept : FunctionKept (Rename existing new swapping) wanted r s
  rename_kept = record { good = rename_good; schema = record { held = rename_held; within = rename_within }; agrees = rename_agrees }
