pub mod OneDegree
