-- Steps one after another, of which each gave something.
use Rattle.std.proofs.Common.{◌≡◌, Option, Some, None, refl, subst}
use Rattle.plan_doc_parts.specs.Parts.{◌>>=◌}
use Rattle.plan_doc_parts.proofs.EntryLemmas.{some_is}

-- so many steps gave something, so what is made of it is what was read: what holds of each that can be made holds of it
pub gives1 : {A X : Type 0} (a : Option A) (f : A → X) (x : X) → (a >>= λ p. Some (f p)) ≡ Some x → (D : X → Type 0) → ((p : A) → a ≡ Some p → D (f p)) → D x
gives1 (Some p) f x is D go = subst D (some_is (f p) x is) (go p refl)
gives1 None f x is D go = absurd cc

pub gives2 : {A B X : Type 0} (a : Option A) (b : A → Option B) (f : A → B → X) (x : X) → (a >>= λ p. b p >>= λ q. Some (f p q)) ≡ Some x → (D : X → Type 0) → ((p : A) (q : B) → a ≡ Some p → b p ≡ Some q → D (f p q)) → D x
gives2 (Some p) b f x is D go = gives1 (b p) (f p) x is D (λ q is_q. go p q refl is_q)
gives2 None b f x is D go = absurd cc

pub gives3 : {A B C X : Type 0} (a : Option A) (b : A → Option B) (c : A → B → Option C) (f : A → B → C → X) (x : X) → (a >>= λ p. b p >>= λ q. c p q >>= λ r. Some (f p q r)) ≡ Some x → (D : X → Type 0) → ((p : A) (q : B) (r : C) → a ≡ Some p → b p ≡ Some q → c p q ≡ Some r → D (f p q r)) → D x
gives3 (Some p) b c f x is D go = gives2 (b p) (c p) (f p) x is D (λ q r is_q is_r. go p q r refl is_q is_r)
gives3 None b c f x is D go = absurd cc

pub gives4 : {A B C E X : Type 0} (a : Option A) (b : A → Option B) (c : A → B → Option C) (d : A → B → C → Option E) (f : A → B → C → E → X) (x : X) → (a >>= λ p. b p >>= λ q. c p q >>= λ r. d p q r >>= λ s. Some (f p q r s)) ≡ Some x → (D : X → Type 0) → ((p : A) (q : B) (r : C) (s : E) → a ≡ Some p → b p ≡ Some q → c p q ≡ Some r → d p q r ≡ Some s → D (f p q r s)) → D x
gives4 (Some p) b c d f x is D go = gives3 (b p) (c p) (d p) (f p) x is D (λ q r s is_q is_r is_s. go p q r s refl is_q is_r is_s)
gives4 None b c d f x is D go = absurd cc

pub gives5 : {A B C E F X : Type 0} (a : Option A) (b : A → Option B) (c : A → B → Option C) (d : A → B → C → Option E) (g : A → B → C → E → Option F) (f : A → B → C → E → F → X) (x : X) → (a >>= λ p. b p >>= λ q. c p q >>= λ r. d p q r >>= λ s. g p q r s >>= λ t. Some (f p q r s t)) ≡ Some x → (D : X → Type 0) → ((p : A) (q : B) (r : C) (s : E) (t : F) → a ≡ Some p → b p ≡ Some q → c p q ≡ Some r → d p q r ≡ Some s → g p q r s ≡ Some t → D (f p q r s t)) → D x
gives5 (Some p) b c d g f x is D go = gives4 (b p) (c p) (d p) (g p) (f p) x is D (λ q r s t is_q is_r is_s is_t. go p q r s t refl is_q is_r is_s is_t)
gives5 None b c d g f x is D go = absurd cc

pub gives6 : {A B C E F G X : Type 0} (a : Option A) (b : A → Option B) (c : A → B → Option C) (d : A → B → C → Option E) (g : A → B → C → E → Option F) (h : A → B → C → E → F → Option G) (f : A → B → C → E → F → G → X) (x : X) → (a >>= λ p. b p >>= λ q. c p q >>= λ r. d p q r >>= λ s. g p q r s >>= λ t. h p q r s t >>= λ u. Some (f p q r s t u)) ≡ Some x → (D : X → Type 0) → ((p : A) (q : B) (r : C) (s : E) (t : F) (u : G) → a ≡ Some p → b p ≡ Some q → c p q ≡ Some r → d p q r ≡ Some s → g p q r s ≡ Some t → h p q r s t ≡ Some u → D (f p q r s t u)) → D x
gives6 (Some p) b c d g h f x is D go = gives5 (b p) (c p) (d p) (g p) (h p) (f p) x is D (λ q r s t u is_q is_r is_s is_t is_u. go p q r s t u refl is_q is_r is_s is_t is_u)
gives6 None b c d g h f x is D go = absurd cc

pub gives7 : {A B C E F G H X : Type 0} (a : Option A) (b : A → Option B) (c : A → B → Option C) (d : A → B → C → Option E) (g : A → B → C → E → Option F) (h : A → B → C → E → F → Option G) (i : A → B → C → E → F → G → Option H) (f : A → B → C → E → F → G → H → X) (x : X) → (a >>= λ p. b p >>= λ q. c p q >>= λ r. d p q r >>= λ s. g p q r s >>= λ t. h p q r s t >>= λ u. i p q r s t u >>= λ v. Some (f p q r s t u v)) ≡ Some x → (D : X → Type 0) → ((p : A) (q : B) (r : C) (s : E) (t : F) (u : G) (v : H) → a ≡ Some p → b p ≡ Some q → c p q ≡ Some r → d p q r ≡ Some s → g p q r s ≡ Some t → h p q r s t ≡ Some u → i p q r s t u ≡ Some v → D (f p q r s t u v)) → D x
gives7 (Some p) b c d g h i f x is D go = gives6 (b p) (c p) (d p) (g p) (h p) (i p) (f p) x is D (λ q r s t u v is_q is_r is_s is_t is_u is_v. go p q r s t u v refl is_q is_r is_s is_t is_u is_v)
gives7 None b c d g h i f x is D go = absurd cc

pub gives8 : {A B C E F G H I X : Type 0} (a : Option A) (b : A → Option B) (c : A → B → Option C) (d : A → B → C → Option E) (g : A → B → C → E → Option F) (h : A → B → C → E → F → Option G) (i : A → B → C → E → F → G → Option H) (j : A → B → C → E → F → G → H → Option I) (f : A → B → C → E → F → G → H → I → X) (x : X) → (a >>= λ p. b p >>= λ q. c p q >>= λ r. d p q r >>= λ s. g p q r s >>= λ t. h p q r s t >>= λ u. i p q r s t u >>= λ v. j p q r s t u v >>= λ w. Some (f p q r s t u v w)) ≡ Some x → (D : X → Type 0) → ((p : A) (q : B) (r : C) (s : E) (t : F) (u : G) (v : H) (w : I) → a ≡ Some p → b p ≡ Some q → c p q ≡ Some r → d p q r ≡ Some s → g p q r s ≡ Some t → h p q r s t ≡ Some u → i p q r s t u ≡ Some v → j p q r s t u v ≡ Some w → D (f p q r s t u v w)) → D x
gives8 (Some p) b c d g h i j f x is D go = gives7 (b p) (c p) (d p) (g p) (h p) (i p) (j p) (f p) x is D (λ q r s t u v w is_q is_r is_s is_t is_u is_v is_w. go p q r s t u v w refl is_q is_r is_s is_t is_u is_v is_w)
gives8 None b c d g h i j f x is D go = absurd cc

pub gives9 : {A B C E F G H I J X : Type 0} (a : Option A) (b : A → Option B) (c : A → B → Option C) (d : A → B → C → Option E) (g : A → B → C → E → Option F) (h : A → B → C → E → F → Option G) (i : A → B → C → E → F → G → Option H) (j : A → B → C → E → F → G → H → Option I) (k : A → B → C → E → F → G → H → I → Option J) (f : A → B → C → E → F → G → H → I → J → X) (x : X) → (a >>= λ p. b p >>= λ q. c p q >>= λ r. d p q r >>= λ s. g p q r s >>= λ t. h p q r s t >>= λ u. i p q r s t u >>= λ v. j p q r s t u v >>= λ w. k p q r s t u v w >>= λ y. Some (f p q r s t u v w y)) ≡ Some x → (D : X → Type 0) → ((p : A) (q : B) (r : C) (s : E) (t : F) (u : G) (v : H) (w : I) (y : J) → a ≡ Some p → b p ≡ Some q → c p q ≡ Some r → d p q r ≡ Some s → g p q r s ≡ Some t → h p q r s t ≡ Some u → i p q r s t u ≡ Some v → j p q r s t u v ≡ Some w → k p q r s t u v w ≡ Some y → D (f p q r s t u v w y)) → D x
gives9 (Some p) b c d g h i j k f x is D go = gives8 (b p) (c p) (d p) (g p) (h p) (i p) (j p) (k p) (f p) x is D (λ q r s t u v w y is_q is_r is_s is_t is_u is_v is_w is_y. go p q r s t u v w y refl is_q is_r is_s is_t is_u is_v is_w is_y)
gives9 None b c d g h i j k f x is D go = absurd cc

pub gives10 : {A B C E F G H I J K X : Type 0} (a : Option A) (b : A → Option B) (c : A → B → Option C) (d : A → B → C → Option E) (g : A → B → C → E → Option F) (h : A → B → C → E → F → Option G) (i : A → B → C → E → F → G → Option H) (j : A → B → C → E → F → G → H → Option I) (k : A → B → C → E → F → G → H → I → Option J) (l : A → B → C → E → F → G → H → I → J → Option K) (f : A → B → C → E → F → G → H → I → J → K → X) (x : X) → (a >>= λ p. b p >>= λ q. c p q >>= λ r. d p q r >>= λ s. g p q r s >>= λ t. h p q r s t >>= λ u. i p q r s t u >>= λ v. j p q r s t u v >>= λ w. k p q r s t u v w >>= λ y. l p q r s t u v w y >>= λ z. Some (f p q r s t u v w y z)) ≡ Some x → (D : X → Type 0) → ((p : A) (q : B) (r : C) (s : E) (t : F) (u : G) (v : H) (w : I) (y : J) (z : K) → a ≡ Some p → b p ≡ Some q → c p q ≡ Some r → d p q r ≡ Some s → g p q r s ≡ Some t → h p q r s t ≡ Some u → i p q r s t u ≡ Some v → j p q r s t u v ≡ Some w → k p q r s t u v w ≡ Some y → l p q r s t u v w y ≡ Some z → D (f p q r s t u v w y z)) → D x
gives10 (Some p) b c d g h i j k l f x is D go = gives9 (b p) (c p) (d p) (g p) (h p) (i p) (j p) (k p) (l p) (f p) x is D (λ q r s t u v w y z is_q is_r is_s is_t is_u is_v is_w is_y is_z. go p q r s t u v w y z refl is_q is_r is_s is_t is_u is_v is_w is_y is_z)
gives10 None b c d g h i j k l f x is D go = absurd cc

pub gives11 : {A B C E F G H I J K L X : Type 0} (a : Option A) (b : A → Option B) (c : A → B → Option C) (d : A → B → C → Option E) (g : A → B → C → E → Option F) (h : A → B → C → E → F → Option G) (i : A → B → C → E → F → G → Option H) (j : A → B → C → E → F → G → H → Option I) (k : A → B → C → E → F → G → H → I → Option J) (l : A → B → C → E → F → G → H → I → J → Option K) (m : A → B → C → E → F → G → H → I → J → K → Option L) (f : A → B → C → E → F → G → H → I → J → K → L → X) (x : X) → (a >>= λ p. b p >>= λ q. c p q >>= λ r. d p q r >>= λ s. g p q r s >>= λ t. h p q r s t >>= λ u. i p q r s t u >>= λ v. j p q r s t u v >>= λ w. k p q r s t u v w >>= λ y. l p q r s t u v w y >>= λ z. m p q r s t u v w y z >>= λ o. Some (f p q r s t u v w y z o)) ≡ Some x → (D : X → Type 0) → ((p : A) (q : B) (r : C) (s : E) (t : F) (u : G) (v : H) (w : I) (y : J) (z : K) (o : L) → a ≡ Some p → b p ≡ Some q → c p q ≡ Some r → d p q r ≡ Some s → g p q r s ≡ Some t → h p q r s t ≡ Some u → i p q r s t u ≡ Some v → j p q r s t u v ≡ Some w → k p q r s t u v w ≡ Some y → l p q r s t u v w y ≡ Some z → m p q r s t u v w y z ≡ Some o → D (f p q r s t u v w y z o)) → D x
gives11 (Some p) b c d g h i j k l m f x is D go = gives10 (b p) (c p) (d p) (g p) (h p) (i p) (j p) (k p) (l p) (m p) (f p) x is D (λ q r s t u v w y z o is_q is_r is_s is_t is_u is_v is_w is_y is_z is_o. go p q r s t u v w y z o refl is_q is_r is_s is_t is_u is_v is_w is_y is_z is_o)
gives11 None b c d g h i j k l m f x is D go = absurd cc
