-- The twelve coefficients in use, wherever Vsync events fall among writes that are stored as they are: old or new at every cut, if a test
-- over the writes passes. Assumes nothing.
use mathlib.Core.Path.{◌≡◌, refl, sym, ap, ap₂, subst, fun_ext, ◌∙◌}
use mathlib.Core.Logic.{◌⊎◌, inl, ⊎_map}
use mathlib.Core.Bool.{false≢true, Bool, true, false, not, ◌&&◌, ◌||◌, cond}
use mathlib.Core.List.{List, [], ◌∷◌, ◌++◌, map}
use Prim.Native.Nat.{ℕ, zero, suc, ◌+◌}
use lib.Dec.{eqb, leb, ltb, lit≤, lit<}
use lib.ListN.{get_or, set, take, drop}
use lib.Seq.{get_or-set_same, get_or-set_other}
use borrow.Author.Tests.{eqb-true, eqb-false}
use Rattle.lists.specs.Those.{those}
use Rattle.lists.proofs.Both.{both_left, both_right}
use Rattle.chip.specs.declared.Chip.{Chip}
use Rattle.chip.specs.Machine.{Write, matrix, converter, up, registers_of, holds_of, held, in_use}
use Rattle.chip.specs.Write.{mark_as, put, vsync_of}
use Rattle.writes.specs.Steps.{Step}
use Rattle.writes.specs.List.{written}
use Rattle.cut.specs.Run.{Event, write, vsync, writes_of}
use Rattle.cut.specs.Vsync.{change_waits, turned_over}
use Rattle.cut.proofs.MovesOnlyAt.{View, walk, acts, Faithful, once}
use Rattle.cut.proofs.GroupStays.{store, only, matrix_same, Whole, image_store, size_store, outside_part, part_fills}
use Rattle.cut.proofs.BytesKept.{clean, Seen, converter_seen}

-- what an event makes of a state, where its byte is stored as it is
abbrev pub act : Event → Chip → Chip
act (write w) s = store w s
act vsync s = vsync_of s

-- the bytes that the converter goes by
abbrev pub shown : Chip → List ℕ
shown = in_use converter matrix

-- 1 while the hold is up, 2 while a lowered hold waits, 0 otherwise
abbrev pub mark : Bool → Bool → ℕ
mark u q = cond u 1 (cond q 2 0)

abbrev pub phase : Chip → ℕ
phase s = mark (held s) s.waiting

abbrev turn : ℕ → Event → ℕ
turn m (write w) = cond (eqb w.address converter.register) (cond (up matrix w.value) 1 (cond (eqb m 0) 0 2)) m
turn m vsync = cond (eqb m 2) 0 m

-- a write is to no register of the converter
abbrev pub away : Write → Bool
away w = ltb w.address matrix.first || leb (matrix.first + matrix.count) w.address

abbrev still : ℕ → Event → Bool
still m (write w) = not (eqb (turn m (write w)) 0) || away w
still m vsync = not (eqb m 2)

abbrev turning : View Event
turning = record { next = turn; quiet = still }

-- the byte of the hold after a write
hold_after : (w : Write) (s : Chip) → Whole s
    → holds_of converter (store w s).image ≡ cond (eqb w.address converter.register) w.value (holds_of converter s.image)
hold_after w s z = ap (λ (l : List ℕ). get_or l converter.register 0) (image_store w s) ∙ go (eqb w.address converter.register) refl
  where
    go : (r : Bool) → eqb w.address converter.register ≡ r
        → get_or (set s.image w.address w.value) converter.register 0 ≡ cond r w.value (holds_of converter s.image)
    go true q = ap (λ (a : ℕ). get_or (set s.image a w.value) converter.register 0) (eqb-true _ _ q)
        ∙ get_or-set_same s.image converter.register w.value 0 (rw z (lit< tt))
    go false q = get_or-set_other s.image w.address converter.register w.value 0 (λ e. eqb-false _ _ q (sym e))

tracks : (e : Event) (s : Chip) → Whole s → phase (act e s) ≡ turn (phase s) e
unfolding put vsync_of
tracks (write w) s z =
    ap (λ (n : ℕ). mark (up matrix n) (store w s).waiting) (hold_after w s z)
    ∙ go (eqb w.address converter.register) w.value (holds_of converter s.image) s.waiting
  where
    at_hold : (y u q : Bool) → mark y (mark_as u y q) ≡ cond y 1 (cond (eqb (mark u q) 0) 0 2)
    at_hold true u q = refl
    at_hold false true q = refl
    at_hold false false true = refl
    at_hold false false false = refl

    go : (r : Bool) (n' n : ℕ) (q : Bool) → mark (up matrix (cond r n' n)) (cond r (mark_as (up matrix n) (up matrix n') q) q)
        ≡ cond r (cond (up matrix n') 1 (cond (eqb (mark (up matrix n) q) 0) 0 2)) (mark (up matrix n) q)
    go true n' n q = at_hold (up matrix n') (up matrix n) q
    go false n' n q = refl
tracks vsync s z = go (held s) s.waiting
  where
    go : (u q : Bool) → mark u (u && q) ≡ cond (eqb (mark u q) 2) 0 (mark u q)
    go true q = refl
    go false true = refl
    go false false = refl

-- by the hold in the byte written (y) and before (u), the mark (q), and whether the write is to the hold's register (r)
module _ (buffer fill p p' : List ℕ) (o : Bool) (out : o ≡ true → p' ≡ p) (fills : take matrix.count fill ≡ p) where
  at_hold : (y u q : Bool) → (not (eqb (cond y 1 (cond (eqb (mark u q) 0) 0 2)) 0) || o) ≡ true
      → cond (mark_as u y q || y) (take matrix.count (cond (not q && true) (cond (y && not u) fill buffer) buffer)) p'
      ≡ cond (q || u) (take matrix.count buffer) p
  at_hold true true true t = refl
  at_hold true true false t = refl
  at_hold true false true t = refl
  at_hold true false false t = fills
  at_hold false true true t = refl
  at_hold false true false t = refl
  at_hold false false true t = refl
  at_hold false false false t = out t

  elsewhere : (u q : Bool) → (not (eqb (mark u q) 0) || o) ≡ true → (filled : List ℕ)
      → cond (q || u) (take matrix.count (cond (not q && false) filled buffer)) p' ≡ cond (q || u) (take matrix.count buffer) p
  elsewhere u true t filled = refl
  elsewhere true false t filled = refl
  elsewhere false false t filled = out t

  by_cases : (r : Bool) (n' n : ℕ) (q : Bool)
      → (not (eqb (cond r (cond (up matrix n') 1 (cond (eqb (mark (up matrix n) q) 0) 0 2)) (mark (up matrix n) q)) 0) || o) ≡ true
      → cond (cond r (mark_as (up matrix n) (up matrix n') q) q || up matrix (cond r n' n))
      (take matrix.count (cond (not q && r) (cond (up matrix n' && not (up matrix n)) fill buffer) buffer)) p'
      ≡ cond (q || up matrix n) (take matrix.count buffer) p
  by_cases true n' n q t = at_hold (up matrix n') (up matrix n) q t
  by_cases false n' n q t = elsewhere (up matrix n) q t (cond (up matrix n' && not (up matrix n)) fill buffer)

keeps : (e : Event) (s : Chip) → Whole s → still (phase s) e ≡ true → shown (act e s) ≡ shown s
unfolding in_use put vsync_of
keeps (write w) s z t =
    ap (λ (n : ℕ). cond ((store w s).waiting || up matrix n) (take matrix.count (store w s).coefficients) (registers_of matrix (store w s).image))
    (hold_after w s z)
    ∙ by_cases s.coefficients (registers_of matrix s.image ++ drop matrix.count s.coefficients) (registers_of matrix s.image)
    (registers_of matrix (store w s).image) (away w) (outside_part matrix w s)
    (part_fills matrix s.image (drop matrix.count s.coefficients) z (lit≤ tt))
    (eqb w.address converter.register) w.value (holds_of converter s.image) s.waiting t
keeps vsync s z t = go (held s) s.waiting t
  where
    go : (u q : Bool) → not (eqb (mark u q) 2) ≡ true
        → cond ((u && q) || u) (take matrix.count s.coefficients) (registers_of matrix s.image)
        ≡ cond (q || u) (take matrix.count s.coefficients) (registers_of matrix s.image)
    go true true t = refl
    go true false t = refl
    go false true t = absurd (false≢true t)
    go false false t = refl

lasts : (e : Event) (s : Chip) → Whole s → Whole (act e s)
unfolding vsync_of
lasts (write w) s z = size_store w s z
lasts vsync s z = z

pub turns : Faithful act turning Whole phase shown
turns = record { lasts = lasts; tracks = tracks; keeps = keeps }

-- a write after which the hold is up or a change waits, or that is to no register of the converter
pub write_keeps : (w : Write) (s : Chip) → Whole s → (not (eqb (phase (store w s)) 0) || away w) ≡ true → shown (store w s) ≡ shown s
write_keeps w s z h = keeps (write w) s z (subst (λ (n : ℕ). (not (eqb n 0) || away w) ≡ true) (tracks (write w) s z) h)

-- a test over the writes that covers every way to put Vsync events between them
abbrev branch : (Bool → ℕ → Bool) → Bool → ℕ → Write → Bool
branch rest may m w = elim (still m (write w)) [ true ↦ rest may (turn m (write w)) | false ↦ may && rest false (turn m (write w)) ]

abbrev pub safe : Bool → ℕ → List Write → Bool
safe may m [] = not (eqb m 2) || may
safe may m (w ∷ ws) =
    branch (λ b n. safe b n ws) may m w && elim (eqb m 2) [ true ↦ may && branch (λ b n. safe b n ws) false 0 w | false ↦ true ]

-- a Vsync that ends a wait is the one exception
safe_turned : (may : Bool) (m : ℕ) (ws : List Write) → eqb m 2 ≡ true → safe may m ws ≡ true → (may ≡ true) × (safe false 0 ws ≡ true)
safe_turned may m [] e t = (rw e at t, refl)
safe_turned may m (w ∷ ws) e t =
    let here : Bool = branch (λ b n. safe b n ws) false 0 w in
    let c : (may && here) ≡ true =
    rw e at (both_right (branch (λ b n. safe b n ws) may m w) (elim (eqb m 2) as (λ x. Bool) [ true ↦ may && here | false ↦ true ]) t) in
    (both_left may here c, ap (λ (b : Bool). b && true) (both_right may here c))

interleaved : (may : Bool) (m : ℕ) (es : List Event) → safe may m (writes_of es) ≡ true → walk turning may m es ≡ true
interleaved may m [] t = refl
interleaved may m (write w ∷ es) t = go (still m (write w)) may (λ b. interleaved b (turn m (write w)) es) (both_left _ _ t)
  where
    go : (q b : Bool) → ((c : Bool) → safe c (turn m (write w)) (writes_of es) ≡ true → walk turning c (turn m (write w)) es ≡ true)
        → elim q [ true ↦ safe b (turn m (write w)) (writes_of es) | false ↦ b && safe false (turn m (write w)) (writes_of es) ] ≡ true
        → elim q [ true ↦ walk turning b (turn m (write w)) es | false ↦ b && walk turning false (turn m (write w)) es ] ≡ true
    go true b ih t = ih b t
    go false true ih t = ih false t
    go false false ih t = absurd (false≢true t)
interleaved may m (vsync ∷ es) t = go (eqb m 2) refl (λ b n. interleaved b n es)
  where
    go : (q : Bool) → eqb m 2 ≡ q → ((b : Bool) (n : ℕ) → safe b n (writes_of es) ≡ true → walk turning b n es ≡ true)
        → elim (not q) [ true ↦ walk turning may (cond q 0 m) es | false ↦ may && walk turning false (cond q 0 m) es ] ≡ true
    go true e ih =
        let z : (may ≡ true) × (safe false 0 (writes_of es) ≡ true) = safe_turned may m (writes_of es) e t in
        ap (λ (b : Bool). b && walk turning false 0 es) z.0 ∙ ih false 0 z.1
    go false e ih = ih may m t

-- where a change waits at the start: up to the write that raises the hold no register of the converter is written
abbrev leading : Bool → Write → Bool → Bool → Bool
leading r w s l = elim r [ true ↦ up matrix w.value && s | false ↦ away w && l ]

abbrev pub lead : List Write → Bool
lead [] = true
lead (w ∷ ws) = elim (eqb w.address converter.register) [ true ↦ up matrix w.value && safe true 1 ws | false ↦ away w && lead ws ]

-- ---- old or new

-- the bytes that are old after some events
abbrev pub old_bytes : List Event → Chip → List ℕ
old_bytes es s = cond (change_waits s && turned_over es) (registers_of matrix s.image) (shown s)

idle_shown : (s : Chip) → phase s ≡ 0 → shown s ≡ registers_of matrix s.image
unfolding in_use
idle_shown s h = go (held s) s.waiting h
  where
    go : (u q : Bool) → mark u q ≡ 0
        → cond (q || u) (take matrix.count s.coefficients) (registers_of matrix s.image) ≡ registers_of matrix s.image
    go true q e = absurd (false≢true (ap (λ (n : ℕ). eqb n 0) e))
    go false true e = absurd (false≢true (ap (λ (n : ℕ). eqb n 0) e))
    go false false e = refl

pub image_vsync : (s : Chip) → (vsync_of s).image ≡ s.image
unfolding vsync_of
image_vsync s = refl

-- where no change waits at the start, old is what is in use there
not_waiting : (es : List Event) (s : Chip) → eqb (phase s) 2 ≡ false → old_bytes es s ≡ shown s
not_waiting es s h = go (held s) s.waiting h
  where
    go : (u q : Bool) → eqb (mark u q) 2 ≡ false → cond ((not u && q) && turned_over es) (registers_of matrix s.image) (shown s) ≡ shown s
    go true q e = refl
    go false true e = absurd (false≢true (sym e))
    go false false e = refl

-- where one waits, it is so until its Vsync
still_waiting : (es : List Event) (s : Chip) → phase s ≡ 2 → old_bytes es s ≡ cond (turned_over es) (registers_of matrix s.image) (shown s)
still_waiting es s h = go (held s) s.waiting h
  where
    go : (u q : Bool) → mark u q ≡ 2 → cond ((not u && q) && turned_over es) (registers_of matrix s.image) (shown s)
        ≡ cond (turned_over es) (registers_of matrix s.image) (shown s)
    go true q e = absurd (false≢true (ap (λ (n : ℕ). eqb n 2) e))
    go false true e = refl
    go false false e = absurd (false≢true (ap (λ (n : ℕ). eqb n 2) e))

-- a write that waits or holds is quiet
turned : (w : Write) (s : Chip) (m : ℕ) → Whole s → phase s ≡ 2 → turn 2 (write w) ≡ m → eqb m 0 ≡ false
    → (phase (store w s) ≡ m) × (shown (store w s) ≡ shown s)
turned w s m z p h n =
    let e : turn (phase s) (write w) ≡ m = ap (λ (x : ℕ). turn x (write w)) p ∙ h in
    (tracks (write w) s z ∙ e, keeps (write w) s z (rw (e, n)))

-- the test's first branch, in phase 0, at a write elsewhere
passed : (rest : Bool → ℕ → Bool) (w : Write) (r o : Bool) → r ≡ false → o ≡ true
    → elim (not (eqb (cond r (cond (up matrix w.value) 1 0) 0) 0) || o)
    [ true ↦ rest true (cond r (cond (up matrix w.value) 1 0) 0) | false ↦ rest false (cond r (cond (up matrix w.value) 1 0) 0) ] ≡ true
    → rest true 0 ≡ true
passed rest w true o e f t = absurd (false≢true (sym e))
passed rest w false true e f t = t
passed rest w false false e f t = absurd (false≢true f)

-- a change that waits at the start
late : (es : List Event) (s : Chip) (k : ℕ) → Whole s → phase s ≡ 2 → safe true 0 (writes_of es) ≡ true → lead (writes_of es) ≡ true
    → (shown (acts act (take k es) s) ≡ cond (turned_over (take k es)) (registers_of matrix s.image) (shown s))
    ⊎ (shown (acts act (take k es) s) ≡ shown (acts act es s))
late es s zero z p t₀ t = inl refl
late [] s (suc k) z p t₀ t = inl refl
late (vsync ∷ es) s (suc k) z p t₀ t =
    let q : phase (vsync_of s) ≡ 0 = tracks vsync s z ∙ ap (λ (m : ℕ). turn m vsync) p in
    let e : shown (vsync_of s) ≡ registers_of matrix s.image = idle_shown (vsync_of s) q ∙ ap (registers_of matrix) (image_vsync s) in
    ⊎_map (λ h. h ∙ e) (λ h. h) (once act turns es (vsync_of s) k (lasts vsync s z) (interleaved true (phase (vsync_of s)) es (rw q t₀)))
late (write w ∷ es) s (suc k) z p t₀ t = go (eqb w.address converter.register) refl (up matrix w.value) refl t (late es (store w s) k (lasts (write w) s z))
  where
    go : (r : Bool) → eqb w.address converter.register ≡ r → (y : Bool) → up matrix w.value ≡ y
        → leading r w (safe true 1 (writes_of es)) (lead (writes_of es)) ≡ true
        → (phase (store w s) ≡ 2 → safe true 0 (writes_of es) ≡ true → lead (writes_of es) ≡ true
        → (shown (acts act (take k es) (store w s)) ≡ cond (turned_over (take k es)) (registers_of matrix (store w s).image) (shown (store w s)))
        ⊎ (shown (acts act (take k es) (store w s)) ≡ shown (acts act es (store w s))))
        → (shown (acts act (take k es) (store w s)) ≡ cond (not (r && y) && turned_over (take k es)) (registers_of matrix s.image) (shown s))
        ⊎ (shown (acts act (take k es) (store w s)) ≡ shown (acts act es (store w s)))
    go true e true y h ih =
        let q : (phase (store w s) ≡ 1) × (shown (store w s) ≡ shown s) = turned w s 1 z p (rw (e, y)) refl in
        ⊎_map (λ x. x ∙ q.1) (λ x. x)
        (once act turns es (store w s) k (lasts (write w) s z)
        (interleaved true (phase (store w s)) es (rw q.0 (both_right (up matrix w.value) _ h))))
    go true e false y h ih = absurd (false≢true (sym y ∙ both_left (up matrix w.value) _ h))
    go false e y f h ih =
        let o : away w ≡ true = both_left (away w) (lead (writes_of es)) h in
        let q : (phase (store w s) ≡ 2) × (shown (store w s) ≡ shown s) = turned w s 2 z p (rw e) refl in
        let out : registers_of matrix (store w s).image ≡ registers_of matrix s.image = outside_part matrix w s o in
        let b : branch (λ b n. safe b n (writes_of es)) true 0 w ≡ true = both_left _ true t₀ in
        ⊎_map (λ x. x ∙ ap₂ (λ (l r : List ℕ). cond (turned_over (take k es)) l r) out q.1) (λ x. x)
        (ih q.0 (passed (λ b n. safe b n (writes_of es)) w (eqb w.address converter.register) (away w) e o b) (both_right (away w) _ h))

-- at every cut of every run of such writes, from any state: old, as request 04 has it, or as the run ends
pub old_or_new : (es : List Event) (s : Chip) (k : ℕ) → Whole s → safe true (mark (held s) false) (writes_of es) ≡ true
    → lead (writes_of es) ≡ true
    → (shown (acts act (take k es) s) ≡ old_bytes (take k es) s) ⊎ (shown (acts act (take k es) s) ≡ shown (acts act es s))
old_or_new es s k z t l = go (held s) refl s.waiting refl t
  where
    plain : (u q : Bool) → held s ≡ u → s.waiting ≡ q → eqb (mark u q) 2 ≡ false → mark u q ≡ mark u false → safe true (mark u false) (writes_of es) ≡ true
        → (shown (acts act (take k es) s) ≡ old_bytes (take k es) s) ⊎ (shown (acts act (take k es) s) ≡ shown (acts act es s))
    plain u q e f n same t =
        let p : phase s ≡ mark u q = ap₂ mark e f in
        ⊎_map (λ x. x ∙ sym (not_waiting (take k es) s (ap (λ (m : ℕ). eqb m 2) p ∙ n))) (λ x. x)
        (once act turns es s k z (interleaved true (phase s) es (rw (p, same) t)))

    go : (u : Bool) → held s ≡ u → (q : Bool) → s.waiting ≡ q → safe true (mark u false) (writes_of es) ≡ true
        → (shown (acts act (take k es) s) ≡ old_bytes (take k es) s) ⊎ (shown (acts act (take k es) s) ≡ shown (acts act es s))
    go true e q f t = plain true q e f refl refl t
    go false e false f t = plain false false e f refl refl t
    go false e true f t =
        let p : phase s ≡ 2 = ap₂ mark e f in
        ⊎_map (λ x. x ∙ sym (still_waiting (take k es) s p)) (λ x. x) (late es s k z p t l)

-- ---- the test sees of a list's writes what it sees of the steps

module _ (want : ℕ → ℕ) (image : List ℕ) where
  abbrev f : Step → Write
  f = written want image

  pub hold_seen : (i : Step) → eqb i.register converter.register ≡ true → up matrix (f i).value ≡ up matrix (clean i).value
  unfolding Seen written
  hold_seen i e =
      let z : only converter.groups (f i).value ≡ only converter.groups (clean i).value = rw e at (converter_seen want image 0 i) in
      sym (matrix_same (f i).value) ∙ ap (λ (n : ℕ). up matrix n) z ∙ matrix_same (clean i).value

  turn_seen : (m : ℕ) (i : Step) → turn m (write (f i)) ≡ turn m (write (clean i))
  unfolding written
  turn_seen m i = go (eqb i.register converter.register) refl
    where
      go : (r : Bool) → eqb i.register converter.register ≡ r
          → cond r (cond (up matrix (f i).value) 1 (cond (eqb m 0) 0 2)) m ≡ cond r (cond (up matrix (clean i).value) 1 (cond (eqb m 0) 0 2)) m
      go true e = ap (λ (b : Bool). cond b 1 (cond (eqb m 0) 0 2)) (hold_seen i e)
      go false e = refl

  pub safe_seen : (may : Bool) (m : ℕ) (is : List Step) → safe may m (map f is) ≡ safe may m (map clean is)
  unfolding written
  safe_seen may m [] = refl
  safe_seen may m (i ∷ is) =
      ap₂ (λ (x y : Bool). x && elim (eqb m 2) as (λ z. Bool) [ true ↦ may && y | false ↦ true ]) (here may m (λ b n. safe_seen b n is))
      (here false 0 (λ b n. safe_seen b n is))
    where
      here : (b : Bool) (n : ℕ) → ((c : Bool) (k : ℕ) → safe c k (map f is) ≡ safe c k (map clean is))
          → branch (λ c k. safe c k (map f is)) b n (f i) ≡ branch (λ c k. safe c k (map clean is)) b n (clean i)
      here b n ih =
          ap (λ (rest : Bool → ℕ → Bool). branch rest b n (f i)) (fun_ext (λ c. fun_ext (λ k. ih c k)))
          ∙ ap (λ (m : ℕ). elim (not (eqb m 0) || away (clean i)) as (λ x. Bool)
          [ true ↦ safe b m (map clean is) | false ↦ b && safe false m (map clean is) ]) (turn_seen n i)

  pub lead_seen : (is : List Step) → lead (map f is) ≡ lead (map clean is)
  unfolding written
  lead_seen [] = refl
  lead_seen (i ∷ is) = go (eqb i.register converter.register) refl (safe_seen true 1 is) (lead_seen is)
    where
      go : (r : Bool) → eqb i.register converter.register ≡ r → safe true 1 (map f is) ≡ safe true 1 (map clean is)
          → lead (map f is) ≡ lead (map clean is)
          → leading r (f i) (safe true 1 (map f is)) (lead (map f is)) ≡ leading r (clean i) (safe true 1 (map clean is)) (lead (map clean is))
      go true e p q = ap₂ (λ (x y : Bool). x && y) (hold_seen i e) p
      go false e p q = ap (λ (b : Bool). away (clean i) && b) q

-- ---- some steps left out: those that are not to the hold's register

both : {a b : Bool} → a ≡ true → b ≡ true → (a && b) ≡ true
both p q = rw (p, q)

-- what passes with no exception passes with one
safe_weaken : (m : ℕ) (ws : List Write) → safe false m ws ≡ true → (may : Bool) → safe may m ws ≡ true
safe_weaken m [] t may = go (eqb m 2) t
  where
    go : (q : Bool) → (not q || false) ≡ true → (not q || may) ≡ true
    go true t = absurd (false≢true t)
    go false t = refl
safe_weaken m (w ∷ ws) t may =
    both (branching (still m (write w)) (both_left _ _ t) (λ n h. safe_weaken n ws h may))
    (waiting (eqb m 2) (both_right (branch (λ b n. safe b n ws) false m w) _ t))
  where
    branching : (q : Bool) → elim q [ true ↦ safe false (turn m (write w)) ws | false ↦ false && safe false (turn m (write w)) ws ] ≡ true
        → ((n : ℕ) → safe false n ws ≡ true → safe may n ws ≡ true)
        → elim q [ true ↦ safe may (turn m (write w)) ws | false ↦ may && safe false (turn m (write w)) ws ] ≡ true
    branching true t ih = ih (turn m (write w)) t
    branching false t ih = absurd (false≢true t)

    waiting : (q : Bool) → elim q [ true ↦ false && branch (λ b n. safe b n ws) false 0 w | false ↦ true ] ≡ true
        → elim q [ true ↦ may && branch (λ b n. safe b n ws) false 0 w | false ↦ true ] ≡ true
    waiting true t = absurd (false≢true t)
    waiting false t = refl

branch_through : (rest rest' : Bool → ℕ → Bool) → ((b : Bool) (n : ℕ) → rest b n ≡ true → rest' b n ≡ true) → (may : Bool) (m : ℕ) (w : Write)
    → branch rest may m w ≡ true → branch rest' may m w ≡ true
branch_through rest rest' h may m w = go (still m (write w)) may
  where
    go : (q may : Bool) → elim q [ true ↦ rest may (turn m (write w)) | false ↦ may && rest false (turn m (write w)) ] ≡ true
        → elim q [ true ↦ rest' may (turn m (write w)) | false ↦ may && rest' false (turn m (write w)) ] ≡ true
    go true may t = h may (turn m (write w)) t
    go false true t = h false (turn m (write w)) t
    go false false t = absurd (false≢true t)

module _ (test : Step → Bool) (idle : (i : Step) → test i ≡ false → eqb i.register converter.register ≡ false) where
  pub safe_those : (may : Bool) (m : ℕ) (is : List Step) → safe may m (map clean is) ≡ true → safe may m (map clean (those test is)) ≡ true
  safe_those may m [] t = t
  safe_those may m (i ∷ is) t = go (test i) refl (λ b n. safe_those b n is)
    where
      waiting : (q : Bool) → ((b : Bool) (n : ℕ) → safe b n (map clean is) ≡ true → safe b n (map clean (those test is)) ≡ true) → (may : Bool)
          → elim q [ true ↦ may && branch (λ b n. safe b n (map clean is)) false 0 (clean i) | false ↦ true ] ≡ true
          → elim q [ true ↦ may && branch (λ b n. safe b n (map clean (those test is))) false 0 (clean i) | false ↦ true ] ≡ true
      waiting true ih true t = branch_through (λ b n. safe b n (map clean is)) (λ b n. safe b n (map clean (those test is))) ih false 0 (clean i) t
      waiting true ih false t = absurd (false≢true t)
      waiting false ih may t = refl

      drops : (q may : Bool) → ((b : Bool) (n : ℕ) → safe b n (map clean is) ≡ true → safe b n (map clean (those test is)) ≡ true)
          → elim q [ true ↦ safe may m (map clean is) | false ↦ may && safe false m (map clean is) ] ≡ true
          → safe may m (map clean (those test is)) ≡ true
      drops true may ih t = ih may m t
      drops false true ih t = safe_weaken m (map clean (those test is)) (ih false m t) true
      drops false false ih t = absurd (false≢true t)

      go : (c : Bool) → test i ≡ c → ((b : Bool) (n : ℕ) → safe b n (map clean is) ≡ true → safe b n (map clean (those test is)) ≡ true)
          → safe may m (map clean (cond c (i ∷ []) [] ++ those test is)) ≡ true
      go true e ih =
          both (branch_through (λ b n. safe b n (map clean is)) (λ b n. safe b n (map clean (those test is))) ih may m (clean i) (both_left _ _ t))
          (waiting (eqb m 2) ih may (both_right (branch (λ b n. safe b n (map clean is)) may m (clean i)) _ t))
      go false e ih =
          let z : turn m (write (clean i)) ≡ m = rw (idle i e) in
          drops (still m (write (clean i))) may ih
          (subst (λ (n : ℕ). elim (still m (write (clean i))) as (λ x. Bool)
          [ true ↦ safe may n (map clean is) | false ↦ may && safe false n (map clean is) ] ≡ true) z
          (both_left (branch (λ b n. safe b n (map clean is)) may m (clean i)) _ t))

  pub lead_those : (is : List Step) → lead (map clean is) ≡ true → lead (map clean (those test is)) ≡ true
  lead_those [] t = t
  lead_those (i ∷ is) t = go (test i) refl (eqb i.register converter.register) refl t (lead_those is)
    where
      go : (c : Bool) → test i ≡ c → (r : Bool) → eqb i.register converter.register ≡ r
          → leading r (clean i) (safe true 1 (map clean is)) (lead (map clean is)) ≡ true
          → (lead (map clean is) ≡ true → lead (map clean (those test is)) ≡ true)
          → lead (map clean (cond c (i ∷ []) [] ++ those test is)) ≡ true
      go true e true f t ih =
          subst (λ (r : Bool). leading r (clean i) (safe true 1 (map clean (those test is))) (lead (map clean (those test is))) ≡ true) (sym f)
          (both (both_left (up matrix (clean i).value) _ t) (safe_those true 1 is (both_right (up matrix (clean i).value) _ t)))
      go true e false f t ih =
          subst (λ (r : Bool). leading r (clean i) (safe true 1 (map clean (those test is))) (lead (map clean (those test is))) ≡ true) (sym f)
          (both (both_left (away (clean i)) _ t) (ih (both_right (away (clean i)) _ t)))
      go false e true f t ih = absurd (false≢true (sym (idle i e) ∙ f))
      go false e false f t ih = ih (both_right (away (clean i)) _ t)
