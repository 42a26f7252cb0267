pub mod Relations
