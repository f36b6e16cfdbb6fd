pub mod SameSolver
